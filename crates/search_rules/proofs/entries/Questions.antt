-- An entry of the provisional cache answers the newest goal's question.
use Rattle.std.proofs.Common.{◌≡◌, ℕ, suc, nat_eq, Bool, true, false, not, ◌&&◌, ◌||◌, ◌⊎◌, inl, inr, cond, List, []}
use Rattle.std.proofs.Common.{◌∷◌, length, map, reverse, All, Option, Some, None, refl, sym, ap, ◌∙◌, subst, arith}
use Rattle.std.specs.List.{find}
use Rattle.std.specs.Option.{option_map, unwrap_or}
use Rattle.std.proofs.lemmas.Bool.Decides.{nat_tests}
use Rattle.std.proofs.lemmas.List.{length-map}
use Rattle.std.proofs.lemmas.List.Elements.{All-head, All-tail}
use Rattle.search_rules.specs.Below.{Answer, AnswersNewest, asking_heads, CacheNode, CycleHead, entries_at}
use Rattle.search_rules.specs.Below.{has_head_up_to, highest, may_be_used, path_kind, path_kind_from, PathKind}
use Rattle.search_rules.specs.Below.{ProvisionalCacheEntry, rank_of, Reply, Request, stack_of, StackDepth}
use Rattle.search_rules.specs.Below.{Verdicts, OpenGoal}
use Rattle.search_rules.specs.Words.{AreJustified, Asking, frames_of, highest_depth, IsFit, IsReady, IsReusable}
use Rattle.search_rules.specs.Words.{LieBelow, NewestAsks, run_of, runs_of, usable_entry}
use Rattle.search_rules.proofs.justified.Finishing.{answered_newest_is_justified}
use Rattle.search_rules.proofs.answers.Cycles.{path_kind_is}
use Rattle.search_rules.proofs.answers.Kept.{taken_keeps, taken_run}
use Rattle.search_rules.proofs.entries.Ready.{is_below}
use Rattle.search_rules.proofs.entries.Reusable.{reusable_answers, reusable_kept}
use Rattle.search_rules.proofs.answers.Taken.{later_run, taken_fits, takes_in}

-- ---- the entry that a look-up finds

second_of : (a b : Bool) → (a && b) ≡ true → b ≡ true
second_of true b is = is
second_of false b is = absurd cc

same_numbers : (a b : ℕ) → nat_eq a b ≡ true → a ≡ b
same_numbers a b is = grind (arith, nat_tests)

first_or_later : {E : Type 0} (passes : Bool) (y x : E) (rest : Option E) → cond passes (Some y) rest ≡ Some x
    → ((passes ≡ true) × (y ≡ x)) ⊎ (rest ≡ Some x)
first_or_later true y x rest is = inl (refl, cc)
first_or_later false y x rest is = inr is

-- what is found passes the test,
found_passes : {E : Type 0} (test : E → Bool) (xs : List E) (x : E) → find test xs ≡ Some x → test x ≡ true
found_passes test [] x is = absurd cc
found_passes test (y ∷ ys) x is = elim (first_or_later (test y) y x (find test ys) is) [
  | inl here ↦ subst (λ z. test z ≡ true) here.1 here.0
  | inr later ↦ found_passes test ys x later
]

-- and what holds of each element holds of it
found_holds : {E : Type 0} (P : E → Type 0) (test : E → Bool) (xs : List E) (x : E)
    → find test xs ≡ Some x → All P xs → P x
found_holds P test [] x is all = absurd cc
found_holds P test (y ∷ ys) x is all = elim (first_or_later (test y) y x (find test ys) is) [
  | inl here ↦ subst P here.1 (All-head P y ys all)
  | inr later ↦ found_holds P test ys x later (All-tail P y ys all)
]

module _ {X I R A T : Type 0} (same : I → I → Bool) (asking : Asking X I R A T) (goal : I)
    (entry : ProvisionalCacheEntry X I R A T) where
  usable_entry_is_found : (enabled : Bool) → usable_entry same enabled asking goal ≡ Some entry
      → find (may_be_used asking.stack asking.step) (entries_at same asking.entries goal) ≡ Some entry
  usable_entry_is_found true is = is
  usable_entry_is_found false is = absurd cc

  -- the entry is one of the goal's
  pub entry_is_one : (enabled : Bool) → usable_entry same enabled asking goal ≡ Some entry
      → (P : ProvisionalCacheEntry X I R A T → Type 0) → All P (entries_at same asking.entries goal) → P entry
  entry_is_one enabled is P all = found_holds P (may_be_used asking.stack asking.step)
      (entries_at same asking.entries goal) entry (usable_entry_is_found enabled is) all

  path_at : (o : Option (StackDepth × CycleHead))
      → unwrap_or (option_map (λ h. (not entry.encountered_overflow || has_head_up_to h.0.0 (asking_heads asking.stack))
      && nat_eq (rank_of entry.path_from_head) (rank_of (path_kind_from asking.stack h.0.0 asking.step))) o) false
      ≡ true → rank_of (path_kind_from asking.stack (elim o [ None ↦ 0 | Some head ↦ head.0.0 ]) asking.step)
      ≡ rank_of entry.path_from_head
  path_at None passes = absurd cc
  path_at (Some h) passes =
      sym (same_numbers (rank_of entry.path_from_head) (rank_of (path_kind_from asking.stack h.0.0 asking.step))
      (second_of (not entry.encountered_overflow || has_head_up_to h.0.0 (asking_heads asking.stack))
      (nat_eq (rank_of entry.path_from_head) (rank_of (path_kind_from asking.stack h.0.0 asking.step))) passes))

  -- and the path from its highest head is of the kind that it was
  pub entry_path_is : (enabled : Bool) → usable_entry same enabled asking goal ≡ Some entry
      → rank_of (path_kind_from asking.stack (highest_depth entry.heads) asking.step) ≡ rank_of entry.path_from_head
  entry_path_is enabled is = path_at (highest entry.heads) (found_passes (may_be_used asking.stack asking.step)
      (entries_at same asking.entries goal) entry (usable_entry_is_found enabled is))

-- ---- the newest goal takes the answer over

module _ {X F I R A T : Type 0} (says : Verdicts R) (scripts : I → List (Reply R) → Request I R)
    (nodes : List (CacheNode I R)) (old new : List (OpenGoal X F I R A T)) (step : PathKind) (goal : I)
    (entry : ProvisionalCacheEntry X I R A T) (a : AnswersNewest step 0 entry.encountered_overflow entry.heads old new)
    (h : AreJustified says nodes (runs_of old)) (ready : IsReady says scripts nodes (runs_of old) goal entry) where
  -- its heads are goals, so that they lie below the place above the newest goal
  heads_lower : LieBelow (suc (length a.below)) entry.heads
  heads_lower head some =
      let less = is_below (runs_of old) h.tallies head (ready.are_heads head some) in
      omega (arith, less, length-map old run_of, ap length a.was)

  -- it stays justified,
  pub entry_taken_justified : AreJustified says nodes (runs_of new)
  entry_taken_justified =
      answered_newest_is_justified says nodes step 0 entry.encountered_overflow entry.heads old new a heads_lower h

  -- and the answer fits its question
  pub entry_fits : NewestAsks (runs_of old) step goal
      → rank_of (path_kind_from (reverse (map (λ s. s.0) old)) (highest_depth entry.heads) step)
      ≡ rank_of entry.path_from_head → IsFit says nodes (runs_of new) (Answer entry.result) entry.node
  entry_fits asks path =
      let later = later_run says nodes old new step 0 entry.encountered_overflow entry.heads a in
      taken_fits says nodes old new step 0 entry.encountered_overflow entry.heads a entry.result goal entry.node asks
      (reusable_answers says nodes later (runs_of a.below) goal entry step
      (ap (λ l. path_kind (stack_of (frames_of says (runs_of l))) (rank_of step) (highest_depth entry.heads))
      (sym a.was) ∙ sym (path_kind_is says step (highest_depth entry.heads) old) ∙ path)
      (takes_in says nodes old new step 0 entry.encountered_overflow entry.heads a heads_lower h)
      (subst (λ o. IsReusable says nodes (o ∷ runs_of a.below) goal entry)
      (taken_run says nodes old new step 0 entry.encountered_overflow entry.heads a)
      (subst (λ l. IsReusable says nodes (runs_of l) goal entry) a.is
      (reusable_kept says nodes nodes (runs_of old) (runs_of new)
      (taken_keeps says nodes old new step 0 entry.encountered_overflow entry.heads a) goal entry ready.reusable))))
