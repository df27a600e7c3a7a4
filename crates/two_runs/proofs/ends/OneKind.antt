-- The end of a run keeps the kinds of questions, and provisional entries apart from goals that are worked out.
use Rattle.std.proofs.Common.{◌≡◌, ◌-◌, ◌||◌, ℕ, Bool, true, not, List, [], ◌∷◌, length, Option, None, Some, option_map}
use Rattle.std.proofs.Common.{Result, Ok, refl, sym, ap, ◌∙◌, subst}
use Rattle.goal_changes.specs.declared.Next.TheVariants.{Finished}
use Rattle.two_runs.specs.Evaluations.{HaveOneKind}
use Rattle.two_runs.specs.Below.{AreJustified, Cache, CacheNode, Call, CxOf, DelegateOf, depends_on, final_answer}
use Rattle.two_runs.specs.Below.{IsRight, LeavesNested, Lists, newest, Next, node_given, OpenGoal, Overflow, PathKind}
use Rattle.two_runs.specs.Below.{ProvisionalCacheEntry, RebaseReason, RebasesNewest, runs_of, StackEntry, Step, Store}
use Rattle.two_runs.specs.Below.{StoredResult, StoresNewest, Unstable, verdicts}
use Rattle.search_state.specs.declared.evaluation.Evaluation.{Evaluation}
use Rattle.search_ends.specs.Words.{HadMostRuns, IsDone, IsRunAgain, RunLeads, RunsAgain}
use Rattle.search_rules.specs.EndOfRun.{IsEndOfRun, Limited, Repeats, Stable, Unused}
use Rattle.two_runs.specs.Settled.{IsOff}
use Rattle.two_runs.specs.Lone.{IsLone}
use Rattle.two_runs.specs.Kinds.{EntriesSuit, StoredReachNested}
use Rattle.search_rules.specs.Moves.{NewestLeaves}
use Rattle.search_rules.specs.Provisional.{AreReady}
use Rattle.two_runs.proofs.kinds.ApartMoves.{answered_apart, ready_apart, ready_have_heads, rerun_apart}
use Rattle.two_runs.proofs.kinds.Moves.{cleared_keeps_kinds, popped_keeps_kinds, rerun_keeps_kinds, stored_reach_nested}
use Rattle.two_runs.proofs.kinds.StandingApart.{apart_cleared, apart_popped}

module _ {D C V P F I R A T : Type 0} (G : DelegateOf D C V P F I R A T)
    (same : I → I → Bool) (cx : C) (call : Call I) where
  -- what is kept of what comes next, which is the stored results alone once the call has its answer
  abbrev pub HaveOneKindNext : Next R → Store I (StoredResult I R T) → List (OpenGoal C F I R A T)
      → Lists I (ProvisionalCacheEntry C I R A T) → Type 0
  HaveOneKindNext (Step given) results goals entries = HaveOneKind G same cx call results goals entries
  HaveOneKindNext (Finished answer) results goals entries = StoredReachNested (G.script cx) same call.goals results

-- a goal without a reason was not used
unused_of : {C I R A T : Type 0} (same_result : R → R → Bool) (initial_kind : R → Option PathKind)
    (ambiguity : R → Option A) (limit : ℕ) (earlier : Option R) (usages : _) (finished_runs : ℕ) (r : R)
    (end : Result (Option (RebaseReason C I R A T)) Unstable)
    → IsEndOfRun same_result initial_kind ambiguity limit earlier usages finished_runs r end
    → end ≡ Ok None → usages ≡ None
unused_of same_result initial_kind ambiguity limit earlier usages finished_runs r end (Unused none) is = none
unused_of same_result initial_kind ambiguity limit earlier usages finished_runs r end (Stable used why at stable) is =
    absurd cc
unused_of same_result initial_kind ambiguity limit earlier usages finished_runs r end (Limited used at never many) is =
    absurd cc
unused_of same_result initial_kind ambiguity limit earlier usages finished_runs r end (Repeats used at never few) is =
    absurd cc

module _ {D C V P F I R A T : Type 0} (G : DelegateOf D C V P F I R A T) (X : CxOf C I R A T) (same : I → I → Bool)
    (by_value : (x y : I) → same x y ≡ true → x ≡ y) (cx : C) (call : Call I)
    (suits : EntriesSuit G.ENABLE_PROVISIONAL_CACHE (G.script cx)) (nodes : List (CacheNode I R))
    (results later : Store I (StoredResult I R T)) (reason : Option (RebaseReason C I R A T)) (r : R)
    (old new : Lists I (ProvisionalCacheEntry C I R A T)) where
  pub popped_keeps : (goals left : List (OpenGoal C F I R A T)) (next : Next R)
      → AreJustified (verdicts X) nodes (runs_of goals)
      → AreReady (verdicts X) same (G.script cx) nodes (runs_of goals) old
      → ((s : OpenGoal C F I R A T) (below : List (OpenGoal C F I R A T)) → goals ≡ s ∷ below
      → reason ≡ None → s.0.state.usages ≡ None)
      → ((s : OpenGoal C F I R A T) (below : List (OpenGoal C F I R A T)) → goals ≡ s ∷ below
      → IsLone same results s.0.input → ⊥)
      → ((s : OpenGoal C F I R A T) (below : List (OpenGoal C F I R A T))
      → goals ≡ s ∷ below → IsOff (runs_of below) s.0.input)
      → NewestLeaves r goals next left → LeavesNested same goals left
      → StoresNewest same goals r (node_given next) results later → RebasesNewest same G.ENABLE_PROVISIONAL_CACHE
      (G.propagated cx) (G.fixpoint_overflow cx) reason r (node_given next) goals old new
      → HaveOneKind G same cx call results goals old → HaveOneKindNext G same cx call next later left new
  popped_keeps [] left next justified ready unused not_lone off leaves nests puts rebases h = absurd leaves
  popped_keeps (s ∷ []) left next justified ready unused not_lone off leaves nests puts rebases h =
      subst (λ n. HaveOneKindNext G same cx call n later left new) (sym leaves.1)
      (stored_reach_nested (G.script cx) same by_value call.goals results later s.0.input
      (final_answer s r (node_given next)) h.kinds.goals_are.0.nested puts h.reached)
  popped_keeps (s ∷ p ∷ below) left next justified ready unused not_lone off leaves nests puts rebases h =
      subst (λ n. HaveOneKindNext G same cx call n later left new) (sym leaves.1)
      (record {
        kinds = popped_keeps_kinds (G.script cx) same G.ENABLE_PROVISIONAL_CACHE by_value suits (G.propagated cx)
            (G.fixpoint_overflow cx) reason r s p below old new h.kinds
            (ready_have_heads (verdicts X) same (G.script cx) nodes old (s ∷ p ∷ below) ready)
            (λ none. ready_apart (verdicts X) same (G.script cx) nodes old s (p ∷ below) justified ready
            (unused s (p ∷ below) refl none)) rebases.0 left
            (s.0.state.encountered_overflow || s.1.met_overflow_before) leaves.2 nests;
        apart = answered_apart same later new (p ∷ below) left s.0.step_kind_from_parent s.0.state.required_depth
            (s.0.state.encountered_overflow || s.1.met_overflow_before) s.0.state.heads leaves.2
            (apart_popped same by_value results later s (p ∷ below) G.ENABLE_PROVISIONAL_CACHE (G.propagated cx)
            (G.fixpoint_overflow cx) reason r (node_given next) old new h.apart rebases.0 puts
            (not_lone s (p ∷ below) refl) (off s (p ∷ below) refl));
        reached = stored_reach_nested (G.script cx) same by_value call.goals results later s.0.input
            (final_answer s r (node_given next)) h.kinds.goals_are.0.nested puts h.reached;
      })

module _ {D C V P F I R A T : Type 0} (G : DelegateOf D C V P F I R A T) (X : CxOf C I R A T) (same : I → I → Bool)
    (by_value : (x y : I) → same x y ≡ true → x ≡ y) (old : Cache C I R T) (before : Evaluation D C V P F I R A T)
    (call : Call I) (outcome : R) (suits : EntriesSuit G.ENABLE_PROVISIONAL_CACHE (G.script old.cx))
    (right : IsRight G X same old.cx old before)
    (not_lone : (s : OpenGoal C F I R A T) (below : List (OpenGoal C F I R A T)) → before.goals ≡ s ∷ below
    → IsLone same old.results s.0.input → ⊥)
    (off : (s : OpenGoal C F I R A T) (below : List (OpenGoal C F I R A T))
    → before.goals ≡ s ∷ below → IsOff (runs_of below) s.0.input)
    (h : HaveOneKind G same old.cx call old.results before.goals before.provisional) where
  -- the goal is run again
  pub rerun_keeps : (new : Cache C I R T) (after : Evaluation D C V P F I R A T)
      → RunsAgain G X same outcome old before new after
      → HaveOneKind G same old.cx call new.results after.goals after.provisional
  rerun_keeps new after again =
      subst (λ (results : Store I (StoredResult I R T)).
      HaveOneKind G same old.cx call results after.goals after.provisional) (sym again.results)
      (record {
        kinds =
            cleared_keeps_kinds (G.script old.cx) same G.ENABLE_PROVISIONAL_CACHE after.goals before.provisional
            after.provisional (λ entry. not (depends_on (record { 0 = length before.goals - 1 }) entry)) again.cleared
            (rerun_keeps_kinds G X old.cx same G.ENABLE_PROVISIONAL_CACHE before.provisional before.goals
            after.goals outcome again.reran h.kinds);
        apart =
            apart_cleared same old.results after.goals before.provisional after.provisional
            (λ entry. not (depends_on (record { 0 = length before.goals - 1 }) entry)) again.cleared
            (rerun_apart G X old.cx same old.results before.provisional before.goals
            after.goals outcome again.reran h.apart);
        reached = h.reached;
      })

  -- whatever the end of its run leads to
  pub led_keeps : (same_result : R → R → Bool) (next : Next R) (new : Cache C I R T)
      (after : Evaluation D C V P F I R A T) → RunLeads G X same same_result outcome old before next new after
      → HaveOneKindNext G same old.cx call next new.results after.goals after.provisional
  led_keeps same_result next new after (IsDone entry run reason comes pops unmet) =
      popped_keeps G X same by_value old.cx call suits old.nodes old.results new.results reason outcome
      before.provisional after.provisional before.goals after.goals next right.justified right.ready
      (λ s below was none.
      let found : Some s.0 ≡ Some entry =
      ap (λ l. option_map (λ (t : OpenGoal C F I R A T). t.0) (newest l)) (sym was) ∙ comes.is_entry in
      let one : s.0 ≡ entry = cc in
      subst (λ (d : StackEntry C I R A T). d.state.usages ≡ None) (sym one)
      (unused_of same_result G.initial_kind G.ambiguity G.FIXPOINT_STEP_LIMIT entry.state.provisional_result
      entry.state.usages run.finished_runs outcome (Ok reason) comes.ends (ap Ok none)))
      not_lone off pops.left pops.nested pops.puts pops.rebased h
  led_keeps same_result next new after (HadMostRuns entry run comes pops met) =
      popped_keeps G X same by_value old.cx call suits old.nodes old.results new.results (Some Overflow)
      (G.fixpoint_overflow old.cx entry.input) before.provisional after.provisional before.goals
      after.goals next right.justified right.ready
      (λ s below was none. absurd cc) not_lone off pops.left pops.nested pops.puts pops.rebased h
  led_keeps same_result next new after (IsRunAgain entry run comes again is unmet) =
      subst (λ n. HaveOneKindNext G same old.cx call n new.results after.goals after.provisional)
      (sym is) (rerun_keeps new after again)
