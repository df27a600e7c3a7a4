-- The end of a run keeps provisional entries apart from the goals that are worked out: where no entry is used there are
-- none, and else goals that reach each other ask by one kind.
use Rattle.std.proofs.Common.{◌≡◌, ◌++◌, ◌-◌, ◌&&◌, if◌then◌else◌, Bool, true, false, not, filter, List, [], ◌∷◌}
use Rattle.std.proofs.Common.{length, map, reverse, Option, None, Some, inl, inr, refl, ap, ◌∙◌}
use Rattle.goal_changes.specs.declared.Next.TheVariants.{Finished}
use Rattle.two_runs.specs.Evaluations.{EntriesSuitCall, NoneUsed, OneKind}
use Rattle.two_runs.specs.Below.{Cache, Call, CxOf, DelegateOf, depends_on, entries_at, entries_for, final_answer}
use Rattle.two_runs.specs.Below.{IsRight, Lists, Next, node_given, OpenGoal, Overflow, ProvisionalCacheEntry}
use Rattle.two_runs.specs.Below.{rebased_for, RebaseReason, RebasesNewest, runs_of, StackEntry, Step}
use Rattle.two_runs.specs.Below.{Store, StoredResult}
use Rattle.search_state.specs.declared.evaluation.Evaluation.{Evaluation}
use Rattle.search_ends.specs.Words.{HadMostRuns, IsDone, IsRunAgain, RunLeads}
use Rattle.two_runs.specs.Settled.{IsOff}
use Rattle.two_runs.specs.Lone.{IsLone}
use Rattle.two_runs.specs.Kinds.{EntriesSuit, StoredSuit}
use Rattle.two_runs.proofs.ends.OneKind.{HaveOneKindNext, led_keeps}

module _ {D C V P F I R A T : Type 0} (G : DelegateOf D C V P F I R A T)
    (same : I → I → Bool) (cx : C) (call : Call I) where
  -- what is kept of what comes next, which is the stored results alone once the call has its answer
  abbrev pub EntriesSuitNext : Next R → Store I (StoredResult I R T) → List (OpenGoal C F I R A T)
      → Lists I (ProvisionalCacheEntry C I R A T) → Type 0
  EntriesSuitNext (Step given) results goals entries = EntriesSuitCall G same cx call results goals entries
  EntriesSuitNext (Finished answer) results goals entries =
      StoredSuit G.ENABLE_PROVISIONAL_CACHE (G.script cx) same call.goals results

  of_one_kind : (next : Next R) (results : Store I (StoredResult I R T)) (goals : List (OpenGoal C F I R A T))
      (entries : Lists I (ProvisionalCacheEntry C I R A T))
      → HaveOneKindNext G same cx call next results goals entries → EntriesSuitNext next results goals entries
  of_one_kind (Step given) results goals entries kept = OneKind kept
  of_one_kind (Finished answer) results goals entries reached = inr reached

  of_none : (next : Next R) (results : Store I (StoredResult I R T)) (goals : List (OpenGoal C F I R A T))
      (entries : Lists I (ProvisionalCacheEntry C I R A T)) → G.ENABLE_PROVISIONAL_CACHE ≡ false
      → ((goal : I) → entries_at same entries goal ≡ []) → EntriesSuitNext next results goals entries
  of_none (Step given) results goals entries off none = NoneUsed off none
  of_none (Finished answer) results goals entries off none = inl off

module _ {D C V P F I R A T : Type 0} (G : DelegateOf D C V P F I R A T) (X : CxOf C I R A T) (same : I → I → Bool)
    (by_value : (x y : I) → same x y ≡ true → x ≡ y) (old : Cache C I R T) (before : Evaluation D C V P F I R A T)
    (call : Call I) (outcome : R) (suits : EntriesSuit G.ENABLE_PROVISIONAL_CACHE (G.script old.cx))
    (right : IsRight G X same old.cx old before)
    (not_lone : (s : OpenGoal C F I R A T) (below : List (OpenGoal C F I R A T)) → before.goals ≡ s ∷ below
    → IsLone same old.results s.0.input → ⊥)
    (off : (s : OpenGoal C F I R A T) (below : List (OpenGoal C F I R A T)) → before.goals ≡ s ∷ below
    → IsOff (runs_of below) s.0.input) where
  none_rebased : (propagated : A → R) (overflow : R) (reason : Option (RebaseReason C I R A T))
      (stack : List (StackEntry C I R A T)) (done : StackEntry C I R A T)
      → rebased_for propagated overflow reason stack done [] ≡ []
  none_rebased propagated overflow None stack done = refl
  none_rebased propagated overflow (Some reason) stack done = refl

  none_left : G.ENABLE_PROVISIONAL_CACHE ≡ false
      → (goals : List (OpenGoal C F I R A T)) (reason : Option (RebaseReason C I R A T)) (r : R) (target : _)
      (entries more : Lists I (ProvisionalCacheEntry C I R A T)) → RebasesNewest same G.ENABLE_PROVISIONAL_CACHE
      (G.propagated old.cx) (G.fixpoint_overflow old.cx) reason r target goals entries more
      → ((goal : I) → entries_at same entries goal ≡ []) → (goal : I) → entries_at same more goal ≡ []
  none_left disabled [] reason r target entries more rebases none goal = absurd rebases
  none_left disabled (s ∷ below) reason r target entries more rebases none goal =
      let stack = reverse (map (λ p. p.0) below) in
      rebases.0.entries goal
      ∙ (ap (λ b. rebased_for (G.propagated old.cx goal) (G.fixpoint_overflow old.cx goal) reason stack s.0
      (entries_at same entries goal) ++ (if b && same s.0.input goal
      then entries_for stack s.0.step_kind_from_parent (final_answer s r rebases.0.node) else [])) disabled
      ∙ (ap (λ l. rebased_for (G.propagated old.cx goal) (G.fixpoint_overflow old.cx goal) reason stack s.0 l ++ [])
      (none goal)
      ∙ ap (λ l. l ++ []) (none_rebased (G.propagated old.cx goal) (G.fixpoint_overflow old.cx goal) reason stack s.0)))

  pub led_keeps_entries : (same_result : R → R → Bool) (next : Next R) (new : Cache C I R T)
      (after : Evaluation D C V P F I R A T) → RunLeads G X same same_result outcome old before next new after
      → EntriesSuitCall G same old.cx call old.results before.goals before.provisional
      → EntriesSuitNext G same old.cx call next new.results after.goals after.provisional
  led_keeps_entries same_result next new after leads (OneKind kept) =
      of_one_kind G same old.cx call next new.results after.goals after.provisional (led_keeps G X same by_value old
      before call outcome suits right not_lone off kept same_result next new after leads)
  led_keeps_entries same_result next new after (IsDone entry run reason comes pops unmet) (NoneUsed disabled none) =
      of_none G same old.cx call next new.results after.goals after.provisional disabled (none_left disabled
      before.goals reason outcome (node_given next) before.provisional after.provisional pops.rebased none)
  led_keeps_entries same_result next new after (HadMostRuns entry run comes pops met) (NoneUsed disabled none) =
      of_none G same old.cx call next new.results after.goals after.provisional disabled
      (none_left disabled before.goals (Some Overflow) (G.fixpoint_overflow old.cx entry.input) (node_given next)
      before.provisional after.provisional pops.rebased none)
  led_keeps_entries same_result next new after (IsRunAgain entry run comes again is unmet) (NoneUsed disabled none) =
      of_none G same old.cx call next new.results after.goals after.provisional disabled
      (λ goal. again.cleared goal
      ∙ ap (filter (λ entry. not (depends_on (record { 0 = length before.goals - 1 }) entry))) (none goal))
