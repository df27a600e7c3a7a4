-- Where two runs of a goal are enough: what the end of a run leaves.
use Rattle.std.proofs.Common.{◌≡◌, ◌≢◌, ◌<◌, ◌||◌, ◌-◌, ℕ, Bool, true, false, not, filter, if◌then◌else◌, IsSome, List}
use Rattle.std.proofs.Common.{[], ◌∷◌, ◌++◌, length, map, Option, None, Some, option_map, Result, Ok, Err, inl, inr}
use Rattle.std.proofs.Common.{refl, sym, ap, ◌∙◌, subst}
use Rattle.std.specs.Option.{IfSome, IsSomeAnd}
use Rattle.std.proofs.lemmas.Bool.{false≢true, or_from}
use Rattle.goal_changes.specs.declared.Next.TheVariants.{Finished}
use Rattle.search_context.proofs.Rules.{KeepsRule}
use Rattle.two_runs.specs.Evaluations.{EntriesSuitCall, SettlesNext}
use Rattle.two_runs.specs.Below.{Again, Answer, AreFree, AreJustified, AreReady, AreRuns, AtLimit, Begin, Cache}
use Rattle.two_runs.specs.Below.{CacheNode, Call, CxOf, DelegateOf, depends_on, Done, entries_at, final_answer, Grown}
use Rattle.two_runs.specs.Below.{HasAsked, HasNewestNode, is_in_cycle, IsDefinite, IsEndOfRun, IsNewestStored, IsRight}
use Rattle.two_runs.specs.Below.{IsRising, KeepsGoals, LeavesNested, Lists, newest, Next, node_given, NodeId, open_node}
use Rattle.two_runs.specs.Below.{OpenGoal, Overlap, paths_at, place_of, ProvisionalCacheEntry, Question, RebaseReason}
use Rattle.two_runs.specs.Below.{RebasesNewest, Requests, Run, runs_of, shapes_of, StackEntry, Step, Store, stored_at}
use Rattle.two_runs.specs.Below.{stored_from, StoredResult, StoresNewest, Success, Unstable, verdict_of, Verdicts}
use Rattle.two_runs.specs.Below.{verdicts, WithOverflow}
use Rattle.search_state.specs.declared.evaluation.Evaluation.{Evaluation}
use Rattle.two_runs.proofs.settled.SettledStores.{entries_apart}
use Rattle.two_runs.proofs.ends.KeptEntries.{EntriesSuitNext, led_keeps_entries}
use Rattle.two_runs.specs.AtLimit.{is_at_limit, MeetsLimitAtEnd}
use Rattle.search_ends.specs.Words.{ComesToEnd, HadMostRuns, IsDone, IsRunAgain, RunLeads}
use Rattle.search_rules.specs.Calls.{CallIsEnclosed}
use Rattle.search_rules.specs.Decided.{AllDecided, IsDecided}
use Rattle.two_runs.specs.Apart.{StandApart}
use Rattle.two_runs.specs.Lone.{IsLone, LoneRequire, NoneIsLone}
use Rattle.two_runs.specs.Older.{HasEntry, RestOnOlder}
use Rattle.two_runs.specs.Settled.{AnswerStaysOff, AreSettled, AreSettledGoals, CallNeedsTwoRuns, IsOff, IsSettling}
use Rattle.search_rules.specs.Justified.{cycles_node}
use Rattle.search_rules.specs.Moves.{NewestLeaves, Reruns}
use Rattle.search_rules.specs.Runs.{RerunsWithNode, run_of}
use Rattle.two_runs.proofs.settled.LoneGoals.{lone_after, popped_lone, rerun_none_lone}
use Rattle.two_runs.proofs.settled.SettledGoals.{begin_stays_off}
use Rattle.two_runs.proofs.settled.SettledResults.{settled_grown, settled_stored}
use Rattle.two_runs.proofs.settled.SettledPops.{parent_goals, parent_stays_off, popped_older, result_known}
use Rattle.two_runs.proofs.settled.SettledRuns.{ends, grows, headless, opened_grown, opened_kept, rerun_goals}
use Rattle.two_runs.proofs.settled.SettledRuns.{rerun_older, target_first}
use Rattle.two_runs.proofs.settled.LeftEntries.{cleared_comes, cleared_stay, LeavesEntries, popped_leaves}
use Rattle.two_runs.proofs.settled.OlderEntries.{known_entry, StaySame}
use Rattle.two_runs.proofs.settled.LaterRuns.{never_at_limit, says_again}
use Rattle.search_rules.proofs.moves.DoneRuns.{calm_of}
use Rattle.search_rules.proofs.moves.EndOfRunLaws.{newest_unstable, unstable}
use Rattle.search_rules.proofs.moves.Moves.{done_definite, ends_newest}

-- the newest goal came to the verdict of its provisional result, if it has one
abbrev NewestSaysAgain : {X F I R A T : Type 0} → Verdicts R → List (OpenGoal X F I R A T) → R → Type 0
NewestSaysAgain says [] r = Unit {0}
NewestSaysAgain {R = R} says (s ∷ below) r =
    (earlier : R) → s.0.state.provisional_result ≡ Some earlier → verdict_of says earlier ≡ verdict_of says r

module _ {D C V P F I R A T : Type 0} (G : DelegateOf D C V P F I R A T) (X : CxOf C I R A T) (same : I → I → Bool)
    (by_value : (x y : I) → same x y ≡ true → x ≡ y) (cx : C) (call : Call I)
    (enclosed : CallIsEnclosed G X cx call) where
  -- ---- the goal is popped

  module _ (nodes after : List (CacheNode I R)) (results later : Store I (StoredResult I R T))
      (entries more : Lists I (ProvisionalCacheEntry C I R A T)) (token : I → T) (ahead : ℕ) (r : R) (starts : ℕ)
      (met : Bool) (definite : IsDefinite (verdicts X) r) (reason : Option (RebaseReason C I R A T)) where
    -- what is known as the newest goal is popped
    record IsPopped (goals new : List (OpenGoal C F I R A T)) (next : Next R) : Type 0 where
      asked : HasAsked G X cx call ahead (Done r) goals starts met
      justified : AreJustified (verdicts X) nodes (runs_of goals)
      free : AreFree (verdicts X) same nodes (runs_of goals) results
      ready : AreReady (verdicts X) same (G.script cx) nodes (runs_of goals) entries
      apart : StandApart same results goals entries
      settling : IsSettling (verdicts X) same nodes results entries call goals met
      again : NewestSaysAgain (verdicts X) goals r
      leaves : NewestLeaves r goals next new
      ended : HasNewestNode (verdicts X) nodes after goals r (node_given next)
      nests : LeavesNested same goals new
      stored : IsNewestStored same token goals r (node_given next) later
      puts : StoresNewest same goals r (node_given next) results later
      rebases : RebasesNewest same G.ENABLE_PROVISIONAL_CACHE (G.propagated cx) (G.fixpoint_overflow cx) reason r
          (node_given next) goals entries more
      ready_then : AreReady (verdicts X) same (G.script cx) after (runs_of new) more

    module _ (s : OpenGoal C F I R A T) (below new : List (OpenGoal C F I R A T)) (next : Next R)
        (p : IsPopped (s ∷ below) new next) where
      stay : (goal : I) → IsLone same results goal → IsLone same later goal
      stay = lone_after same by_value results later s.0.input
          (final_answer s r (node_given next)) p.settling.none_lone.0 p.puts

      heads_nest : s.0.state.heads ≢ [] → s.0.state.nested_goals ≢ []
      heads_nest some empty = elim p.settling.goals_are.0.itself [
        | inl there ↦ false≢true (subst (λ n. IsSome (paths_at same n s.0.input)) empty there)
        | inr w ↦ some (headless s.0 w.1)
      ]

      lone_now : s.0.state.nested_goals ≡ [] → s.0.state.heads ≡ [] → IsLone same later s.0.input
      lone_now empty none =
          let success : place_of (final_answer s r (node_given next)) ≡ Success =
          ap (λ b. if b then WithOverflow s.0.state.required_depth else Success)
          (calm_of G X cx call ahead r starts met s below (inr enclosed) p.asked) in
          let at : stored_at same later s.0.input Success
          ≡ Some (stored_from (final_answer s r (node_given next)) (token s.0.input)) =
          sym (ap (stored_at same later s.0.input) success) ∙ p.stored p.settling.goals_are.0.stored none in
          subst (λ o. IsSomeAnd o (λ t. t.nested_goals ≡ [])) (sym at) empty

      lone_then : LoneRequire same later call.goals × NoneIsLone same later call.goals new
      lone_then = popped_lone G X cx call same results enclosed p.settling.settled.require by_value token ahead (Done r)
          s below new starts met r (node_given next) next later p.asked p.settling.goals_are.0.stored heads_nest p.puts
          p.stored p.leaves p.nests p.settling.none_lone

      left_entries : LeavesEntries same (cycles_node (run_of s)) s.0.input r entries more
      left_entries =
          popped_leaves same s below entries more p.settling.older
          (λ goal entry node has. (known_entry (verdicts X) same (G.script cx) nodes (runs_of (s ∷ below)) entries
          p.ready goal entry node has).rising)
          by_value G.ENABLE_PROVISIONAL_CACHE (G.propagated cx) (G.fixpoint_overflow cx) reason r p.rebases.0
          (subst (λ (o : Option NodeId). IsSomeAnd o (λ n. n.0 ≡ cycles_node (run_of s))) (sym p.rebases.1)
          (target_first (verdicts X) same nodes after results entries s below p.justified r (node_given next) p.ended
          definite p.apart p.settling.goals_are p.again))

      settled_then : AreSettled (verdicts X) same after later call.goals
      settled_then =
          settled_stored (verdicts X) same nodes after
          (ends (verdicts X) same nodes after results entries s below p.justified r (node_given next) p.ended definite
          p.apart p.settling.goals_are p.again).goals_kept
          (grows (verdicts X) same nodes after results entries s below p.justified r (node_given next) p.ended definite
          p.apart p.settling.goals_are p.again)
          (runs_of (s ∷ below)) results later stay p.free call.goals p.settling.settled by_value s.0.input
          (final_answer s r (node_given next)) p.puts
          (result_known (verdicts X) same by_value (G.script cx) nodes after results later stay entries more s below
          p.justified p.ready r (node_given next) p.ended definite p.apart p.settling.goals_are
          p.settling.older p.again left_entries lone_now)
          lone_then.0

    -- what it leaves: the goal below it with its answer, or the stored results
    abbrev PopSettles : Next R → List (OpenGoal C F I R A T) → Type 0
    PopSettles (Step given) new = IsSettling (verdicts X) same after later more call new met
        × AnswerStaysOff (verdicts X) same after later more new given.reply given.node
    PopSettles (Finished answer) new = AreSettled (verdicts X) same after later call.goals

    popped_settles : (goals new : List (OpenGoal C F I R A T)) (next : Next R)
        → IsPopped goals new next → PopSettles next new
    popped_settles [] new next p = absurd p.leaves
    popped_settles (s ∷ []) new next p = subst (λ n. PopSettles n new) (sym p.leaves.1) (settled_then s [] new next p)
    popped_settles (s ∷ q ∷ below) new next p =
        let a = p.leaves.2 in
        let overflow = s.0.state.encountered_overflow || s.1.met_overflow_before in
        subst (λ n. PopSettles n new) (sym p.leaves.1) (
          record {
            unmet = p.settling.unmet;
            settled = settled_then s (q ∷ below) new next p;
            goals_are =
                parent_goals (verdicts X) same by_value (G.script cx) nodes after results later
                (stay s (q ∷ below) new next p) entries more s (q ∷ below) p.justified p.ready r (node_given next)
                p.ended definite p.apart p.settling.goals_are p.settling.older p.again
                (left_entries s (q ∷ below) new next p)
                (lone_now s (q ∷ below) new next p) new s.0.step_kind_from_parent
                s.0.state.required_depth overflow a p.nests p.ready_then;
            none_lone = (lone_then s (q ∷ below) new next p).1;
            older =
                popped_older (verdicts X) same by_value (G.script cx) nodes after results later
                (stay s (q ∷ below) new next p) entries more s (q ∷ below) p.justified p.ready r (node_given next)
                p.ended definite p.apart p.settling.goals_are p.settling.older p.again
                (left_entries s (q ∷ below) new next p)
                (lone_now s (q ∷ below) new next p) new s.0.step_kind_from_parent
                s.0.state.required_depth overflow a p.nests p.ready_then;
          },
          subst (AnswerStaysOff (verdicts X) same after later more new (Answer r)) (ap node_given p.leaves.1)
              (parent_stays_off (verdicts X) same by_value (G.script cx) nodes after results later
              (stay s (q ∷ below) new next p) entries more s (q ∷ below) p.justified p.ready r (node_given next) p.ended
              definite p.apart p.settling.goals_are p.settling.older p.again (left_entries s (q ∷ below) new next p)
              (lone_now s (q ∷ below) new next p) new s.0.step_kind_from_parent
              s.0.state.required_depth overflow a p.nests p.ready_then),
        )

  -- ---- the goal is run again

  module _ (nodes after : List (CacheNode I R)) (results : Store I (StoredResult I R T))
      (entries more : Lists I (ProvisionalCacheEntry C I R A T)) (r : R) (met : Bool)
      (definite : IsDefinite (verdicts X) r) (goals new : List (OpenGoal C F I R A T))
      (justified : AreJustified (verdicts X) nodes (runs_of goals))
      (free : AreFree (verdicts X) same nodes (runs_of goals) results)
      (ready : AreReady (verdicts X) same (G.script cx) nodes (runs_of goals) entries)
      (apart : StandApart same results goals entries)
      (h : IsSettling (verdicts X) same nodes results entries call goals met)
      (again : NewestSaysAgain (verdicts X) goals r) (reran : Reruns G X cx r goals new)
      (used : (s : OpenGoal C F I R A T) (below : List (OpenGoal C F I R A T))
      → goals ≡ s ∷ below → is_in_cycle s.0.state ≡ true)
      (cleared : (goal : I) → entries_at same more goal
      ≡ filter (λ entry. not (depends_on (record { 0 = length goals - 1 }) entry)) (entries_at same entries goal))
      (w : RerunsWithNode (verdicts X) nodes after r goals new) where
    abbrev old : List (OpenGoal C F I R A T)
    old = w.item ∷ w.below

    justified_there : AreJustified (verdicts X) nodes (runs_of old)
    justified_there = subst (λ l. AreJustified (verdicts X) nodes (runs_of l)) w.was justified

    ready_there : AreReady (verdicts X) same (G.script cx) nodes (runs_of old) entries
    ready_there = subst (λ l. AreReady (verdicts X) same (G.script cx) nodes (runs_of l) entries) w.was ready

    apart_there : StandApart same results old entries
    apart_there = subst (λ l. StandApart same results l entries) w.was apart

    settled_there : AreSettledGoals (verdicts X) same nodes results entries None old
    settled_there = subst (AreSettledGoals (verdicts X) same nodes results entries None) w.was h.goals_are

    older_there : RestOnOlder same entries (map cycles_node (runs_of old))
    older_there = subst (λ l. RestOnOlder same entries (map cycles_node (runs_of l))) w.was h.older

    again_there : NewestSaysAgain (verdicts X) old r
    again_there = subst (λ l. NewestSaysAgain (verdicts X) l r) w.was again

    cleared_there : (goal : I) → entries_at same more goal
        ≡ filter (λ entry. not (depends_on (record { 0 = length old - 1 }) entry)) (entries_at same entries goal)
    cleared_there = subst (λ (l : List (OpenGoal C F I R A T)). (goal : I) → entries_at same more goal ≡ filter
        (λ entry. not (depends_on (record { 0 = length l - 1 }) entry)) (entries_at same entries goal)) w.was cleared

    in_cycle : is_in_cycle w.item.0.state ≡ true
    in_cycle = used w.item w.below w.was

    rising : (goal : I) (entry : ProvisionalCacheEntry C I R A T) (node : ℕ)
        → HasEntry same entries goal entry node → IsRising entry.heads
    rising goal entry node has =
        (known_entry (verdicts X) same (G.script cx) nodes (runs_of old) entries ready_there goal entry node has).rising

    stay_there : StaySame same (λ node. node < cycles_node (run_of w.item)) entries more
    stay_there = cleared_stay same w.item w.below entries more older_there rising cleared_there

    comes_there : (goal : I) (entry : ProvisionalCacheEntry C I R A T) (node : ℕ) → HasEntry same more goal entry node
        → HasEntry same entries goal entry node
    comes_there = cleared_comes same w.item w.below entries more older_there rising cleared_there

    abbrev opened : List (CacheNode I R)
    opened = w.ended ++ open_node w.item.0.input ∷ []

    kept_there : KeepsGoals nodes opened
    kept_there = opened_kept (verdicts X) same nodes w.ended results entries w.item w.below justified_there r w.target
        w.node definite apart_there settled_there again_there more stay_there comes_there w.frame w.own w.place in_cycle

    grown_there : Grown (shapes_of (verdicts X) nodes) (shapes_of (verdicts X) opened)
    grown_there = opened_grown (verdicts X) same nodes w.ended results entries w.item w.below justified_there r w.target
        w.node definite apart_there settled_there again_there more stay_there comes_there w.frame w.own w.place in_cycle

    rerun_settles : IsSettling (verdicts X) same after results more call new met
    rerun_settles =
        subst (λ ns. IsSettling (verdicts X) same ns results more call new met) (sym w.opened)
        (record {
          unmet = h.unmet;
          settled = settled_grown (verdicts X) same nodes opened kept_there grown_there
              (runs_of goals) results free call.goals h.settled;
          goals_are =
              subst (AreSettledGoals (verdicts X) same opened results more None) (sym w.is)
              (rerun_goals (verdicts X) same nodes w.ended results entries w.item w.below justified_there r w.target
              w.node definite apart_there settled_there again_there more stay_there
              comes_there w.frame w.own w.place in_cycle);
          none_lone = rerun_none_lone G X cx same results call.goals r goals new reran h.none_lone;
          older =
              subst (λ l. RestOnOlder same more (map cycles_node (runs_of l))) (sym w.is)
              (rerun_older (verdicts X) same nodes w.ended results entries w.item w.below justified_there r w.target
              w.node definite apart_there settled_there again_there more stay_there comes_there w.frame
              w.own w.place in_cycle older_there);
        })

  -- ---- no goal has had its most runs

  newest_decided : (s : OpenGoal C F I R A T) (below : List (OpenGoal C F I R A T))
      → AllDecided (verdicts X) (s ∷ below) → IsDecided (verdicts X) s
  newest_decided s [] d = d
  newest_decided s (p ∷ below) d = d.0

  if_some_at : (P : R → Type 0) (o : Option R) (x : R) → o ≡ Some x → IfSome o P → P x
  if_some_at P o x is h = subst (λ q. IfSome q P) is h

  module _ (noop : Bool) (needs : CallNeedsTwoRuns G X cx call noop) (same_result : R → R → Bool)
      (own_result : (x : R) → same_result x x ≡ true) (one_sort : (r : R) → X.is_yes r ≡ true → X.is_no r ≡ false)
      (clash : (goal : I) (held failed : List (Question I)) → X.proves cx goal held → X.refutes cx goal failed
      → Overlap held failed) (yes_is_proved : KeepsRule X.is_yes (G.script cx) (X.proves cx))
      (no_is_refuted : KeepsRule X.is_no (G.script cx) (X.refutes cx))
      (nodes : List (CacheNode I R)) (are_runs : AreRuns (verdicts X) (G.script cx) nodes)
      (results : Store I (StoredResult I R T)) (entries : Lists I (ProvisionalCacheEntry C I R A T)) (ahead : ℕ)
      (r : R) (starts : ℕ) (met : Bool) where
    -- the newest goal's run says what the one before it said
    newest_again : (goals : List (OpenGoal C F I R A T))
        → HasAsked G X cx call ahead (Done r) goals starts met → AreJustified (verdicts X) nodes (runs_of goals)
        → AreReady (verdicts X) same (G.script cx) nodes (runs_of goals) entries → StandApart same results goals entries
        → IsSettling (verdicts X) same nodes results entries call goals met
        → NewestSaysAgain (verdicts X) goals r
    newest_again [] asked justified ready apart h = tt
    newest_again (s ∷ below) asked justified ready apart h = λ earlier was.
        let decided = newest_decided s below (asked.decided (needs.needs.decisive, needs.all_definite) h.unmet) in
        let definite = done_definite G X cx call ahead r (s ∷ below) starts met asked
        (needs.needs.decisive, needs.all_definite) h.unmet in
        says_again (verdicts X) one_sort (G.script cx) nodes are_runs (X.proves cx) (X.refutes cx) clash yes_is_proved
        no_is_refuted same results s below entries justified ready apart h.goals_are r
        (ends_newest G X cx call ahead r (s ∷ below) starts met asked) definite
        earlier was (if_some_at (IsDefinite (verdicts X)) s.0.state.provisional_result earlier was decided.provisional)

    never_limited : (goals : List (OpenGoal C F I R A T)) (entry : StackEntry C I R A T) (run : Run C F I R A T)
        (end : Result (Option (RebaseReason C I R A T)) Unstable)
        → option_map (λ s. s.0) (newest goals) ≡ Some entry → option_map (λ s. s.1) (newest goals) ≡ Some run
        → HasAsked G X cx call ahead (Done r) goals starts met → AreJustified (verdicts X) nodes (runs_of goals)
        → AreReady (verdicts X) same (G.script cx) nodes (runs_of goals) entries → StandApart same results goals entries
        → IsSettling (verdicts X) same nodes results entries call goals met
        → IsEndOfRun same_result G.initial_kind G.ambiguity G.FIXPOINT_STEP_LIMIT entry.state.provisional_result
        entry.state.usages run.finished_runs r end → end ≡ Err AtLimit → ⊥
    never_limited [] entry run end is_entry is_run asked justified ready apart h ends = absurd cc
    never_limited (s ∷ below) entry run end is_entry is_run asked justified ready apart h ends =
        let one : s.0 ≡ entry = cc in
        let other : s.1 ≡ run = cc in
        let decided = newest_decided s below (asked.decided (needs.needs.decisive, needs.all_definite) h.unmet) in
        let definite = done_definite G X cx call ahead r (s ∷ below) starts met asked
        (needs.needs.decisive, needs.all_definite) h.unmet in
        never_at_limit {X = C} {I = I} {T = T} (verdicts X) same_result own_result G.initial_kind G.ambiguity
        G.FIXPOINT_STEP_LIMIT needs.needs.some_runs needs.needs.one_of_each
        s.0.state.provisional_result s.0.state.usages s.1.finished_runs r end h.goals_are.0.first decided.provisional
        (newest_again (s ∷ below) asked justified ready apart h)
        (subst (λ (d : StackEntry C I R A T). IsEndOfRun same_result G.initial_kind G.ambiguity G.FIXPOINT_STEP_LIMIT
        d.state.provisional_result d.state.usages s.1.finished_runs r end) (sym one)
        (subst (λ (x : Run C F I R A T). IsEndOfRun same_result G.initial_kind G.ambiguity G.FIXPOINT_STEP_LIMIT
        entry.state.provisional_result entry.state.usages x.finished_runs r end) (sym other) ends))

-- ---- whatever the end of the run leads to

module _ {D C V P F I R A T : Type 0} (G : DelegateOf D C V P F I R A T) (X : CxOf C I R A T) (same : I → I → Bool)
    (by_value : (x y : I) → same x y ≡ true → x ≡ y) (old : Cache C I R T) (before : Evaluation D C V P F I R A T)
    (starts : ℕ) (call : Call I) (ahead : ℕ) (noop : Bool) (outcome : R)
    (needs : CallNeedsTwoRuns G X old.cx call noop)
    (asked : Requests G X same old.cx (Done outcome) call ahead old before starts)
    (right : IsRight G X same old.cx old before)
    (h : IsSettling (verdicts X) same old.nodes old.results before.provisional call before.goals before.limits_met)
    (kept : EntriesSuitCall G same old.cx call old.results before.goals before.provisional)
    (same_result : R → R → Bool) (own_result : (x : R) → same_result x x ≡ true)
    (one_sort : (r : R) → X.is_yes r ≡ true → X.is_no r ≡ false)
    (clash : (goal : I) (held failed : List (Question I)) → X.proves old.cx goal held → X.refutes old.cx goal failed
    → Overlap held failed) (yes_is_proved : KeepsRule X.is_yes (G.script old.cx) (X.proves old.cx))
    (no_is_refuted : KeepsRule X.is_no (G.script old.cx) (X.refutes old.cx))
    (are_runs : AreRuns (verdicts X) (G.script old.cx) old.nodes) where
  apart : StandApart same old.results before.goals before.provisional
  apart = entries_apart G same old.cx call old.results before.goals before.provisional kept

  limit_never :
      (entry : StackEntry C I R A T) (run : Run C F I R A T) (end : Result (Option (RebaseReason C I R A T)) Unstable)
      → ComesToEnd G same_result outcome before entry run end → end ≡ Err AtLimit → ⊥
  limit_never entry run end comes =
      never_limited G X same by_value old.cx call needs.needs.enclosed noop needs same_result own_result one_sort clash
      yes_is_proved no_is_refuted old.nodes are_runs old.results before.provisional ahead outcome starts
      before.limits_met before.goals entry run end
      comes.is_entry comes.is_run asked.asked right.justified right.ready apart h comes.ends

  result_definite : IsDefinite (verdicts X) outcome
  result_definite = done_definite G X old.cx call ahead outcome before.goals starts before.limits_met asked.asked
      (needs.needs.decisive, needs.all_definite) h.unmet

  says_it_again : NewestSaysAgain (verdicts X) before.goals outcome
  says_it_again =
      newest_again G X same by_value old.cx call needs.needs.enclosed noop needs same_result own_result one_sort clash
      yes_is_proved no_is_refuted old.nodes are_runs old.results before.provisional ahead outcome
      starts before.limits_met before.goals
      asked.asked right.justified right.ready apart h

  next_settles : (reason : Option (RebaseReason C I R A T)) (next : Next R) (new : Cache C I R T)
      (after : Evaluation D C V P F I R A T) → after.limits_met ≡ before.limits_met
      → PopSettles G X same by_value old.cx call needs.needs.enclosed old.nodes new.nodes old.results new.results
      before.provisional after.provisional (X.token old.cx) ahead outcome starts before.limits_met result_definite
      reason next after.goals → EntriesSuitNext G same old.cx call next new.results after.goals after.provisional
      → SettlesNext G X same old.cx call next new after
  next_settles reason (Step given) new after unmet p entries = record {
    settling =
        subst (IsSettling (verdicts X) same new.nodes new.results after.provisional call after.goals) (sym unmet) p.0;
    answer = p.1;
    entries = entries;
  }
  next_settles reason (Finished answer) new after unmet p suit = record { settled = p; suit = suit }

  not_lone_at : (goals : List (OpenGoal C F I R A T)) → NoneIsLone same old.results call.goals goals
      → (s : OpenGoal C F I R A T) (below : List (OpenGoal C F I R A T)) → goals ≡ s ∷ below
      → IsLone same old.results s.0.input → ⊥
  not_lone_at goals none s below was = (subst (NoneIsLone same old.results call.goals) was none).0

  off_at_newest : (goals : List (OpenGoal C F I R A T))
      → AreSettledGoals (verdicts X) same old.nodes old.results before.provisional None goals
      → (s : OpenGoal C F I R A T) (below : List (OpenGoal C F I R A T))
      → goals ≡ s ∷ below → IsOff (runs_of below) s.0.input
  off_at_newest goals settled s below was =
      (subst (AreSettledGoals (verdicts X) same old.nodes old.results before.provisional None) was settled).0.apart

  entries_next : (next : Next R) (new : Cache C I R T) (after : Evaluation D C V P F I R A T)
      → RunLeads G X same same_result outcome old before next new after
      → EntriesSuitNext G same old.cx call next new.results after.goals after.provisional
  entries_next next new after leads =
      led_keeps_entries G X same by_value old before call outcome needs.needs.one_kind right
      (not_lone_at before.goals h.none_lone) (off_at_newest before.goals h.goals_are)
      same_result next new after leads kept

  pub led_settles : (next : Next R) (new : Cache C I R T) (after : Evaluation D C V P F I R A T)
      → RunLeads G X same same_result outcome old before next new after
      → SettlesNext G X same old.cx call next new after
  led_settles next new after (IsDone entry run reason comes pops unmet) =
      next_settles reason next new after unmet
      (popped_settles G X same by_value old.cx call needs.needs.enclosed old.nodes new.nodes old.results new.results
      before.provisional after.provisional (X.token old.cx) ahead outcome starts before.limits_met result_definite
      reason before.goals after.goals next
      (record {
        asked = asked.asked;
        justified = right.justified;
        free = right.free;
        ready = right.ready;
        apart = apart;
        settling = h;
        again = says_it_again;
        leaves = pops.left;
        ended = pops.node;
        nests = pops.nested;
        stored = pops.stored;
        puts = pops.puts;
        rebases = pops.rebased;
        ready_then = pops.right.ready;
      }))
      (entries_next next new after (IsDone entry run reason comes pops unmet))
  led_settles next new after (HadMostRuns entry run comes pops met) =
      absurd (limit_never entry run (Err AtLimit) comes refl)
  led_settles next new after (IsRunAgain entry run comes reran is unmet) =
      subst (λ n. SettlesNext G X same old.cx call n new after) (sym is)
      (record {
        settling =
            subst (IsSettling (verdicts X) same new.nodes new.results after.provisional call after.goals) (sym unmet)
            (subst (λ results. IsSettling (verdicts X) same new.nodes results after.provisional call after.goals
            before.limits_met) (sym reran.results)
            (rerun_settles G X same by_value old.cx call needs.needs.enclosed old.nodes new.nodes old.results
            before.provisional after.provisional outcome before.limits_met result_definite before.goals after.goals
            right.justified right.free right.ready apart h says_it_again reran.reran
            (λ s below was. (newest_unstable before.goals entry run comes.is_entry comes.is_run G.FIXPOINT_STEP_LIMIT
            (unstable same_result G.initial_kind G.ambiguity G.FIXPOINT_STEP_LIMIT entry.state.provisional_result
            entry.state.usages run.finished_runs outcome (Err Again) comes.ends refl) s below was).0)
            reran.cleared reran.with_node));
        answer = begin_stays_off (verdicts X) same by_value new.nodes new.results after.provisional after.goals Begin
            None (λ r begins. let clashing : Begin ≡ Answer r = begins in cc);
        entries = subst (λ n. EntriesSuitNext G same old.cx call n new.results after.goals after.provisional) is
            (entries_next next new after (IsRunAgain entry run comes reran is unmet));
      })

  at_limit_not : (end : Result (Option (RebaseReason C I R A T)) Unstable)
      → (end ≡ Err AtLimit → ⊥) → is_at_limit end ≡ false
  at_limit_not (Ok reason) never = refl
  at_limit_not (Err AtLimit) never = absurd (never refl)
  at_limit_not (Err Again) never = refl

  -- no limit is met, also where memory is out
  pub end_unmet : (met : Bool) → MeetsLimitAtEnd G same_result outcome before met → met ≡ false
  end_unmet met m = m.is ∙ or_from before.limits_met (is_at_limit m.end) h.unmet
      (at_limit_not m.end (limit_never m.entry m.run m.end m.comes))
