-- The heads of a rebased entry rise where those of the entry did.
use Rattle.std.proofs.Common.{◌≡◌, Bool, true, false, if◌then◌else◌, List, Some, None, sym, subst}
use Rattle.search_rules.specs.Below.{PathsToNested, CycleHead, HeadUsages, Heads, IsRising, extended_by_each}
use Rattle.search_rules.specs.Below.{path_of_no_step, has_usages, no_usages, other_usages, StackEntry}
use Rattle.search_rules.specs.Below.{ProvisionalCacheEntry, RebaseReason, NoCycleUsages, Ambiguity, Overflow}
use Rattle.search_rules.specs.Below.{ReachedFixpoint, but_highest, rebased, changed_for}
use Rattle.search_rules.proofs.rebasing.HeadOrder.{ascends, left_ascends, rises}
use Rattle.search_rules.proofs.rebasing.Cases.{IsRebased, NotUsed, Still, Used, is_rebased}
use Rattle.search_rules.proofs.rebasing.Shapes.{all_ascends, with_all}

left_rise : (paths : CycleHead → PathsToNested) (usages : CycleHead → HeadUsages) (done own : Heads) → IsRising own
    → IsRising (with_all paths usages done (but_highest own))
left_rise paths usages done own rising = rises (with_all paths usages done (but_highest own))
    (all_ascends paths usages done (but_highest own) (left_ascends own (ascends own rising)))

module _ {X I R A T : Type 0} where
  pub changed_heads_same : (propagated : A → R) (overflow : R) (reason : RebaseReason X I R A T) (usages : HeadUsages)
      (entry after : ProvisionalCacheEntry X I R A T)
      → changed_for propagated overflow reason usages entry ≡ Some after → after.heads ≡ entry.heads
  changed_heads_same propagated overflow NoCycleUsages usages entry after is = absurd cc
  changed_heads_same propagated overflow (Ambiguity info) usages entry after is = cc
  changed_heads_same propagated overflow Overflow usages entry after is = cc
  changed_heads_same propagated overflow (ReachedFixpoint None) usages entry after is = cc
  changed_heads_same propagated overflow (ReachedFixpoint (Some kind)) usages entry after is =
      at (has_usages (other_usages usages kind)) is
    where
      at : (b : Bool) → (if b then None else Some entry) ≡ Some after → after.heads ≡ entry.heads
      at true is = absurd cc
      at false is = cc

  -- so that what holds of rising heads holds of the entry at each later pop, too
  pub rebased_rising : (stack : List (StackEntry X I R A T)) (done : StackEntry X I R A T) (propagated : A → R)
      (overflow : R) (reason : RebaseReason X I R A T) (entry after : ProvisionalCacheEntry X I R A T)
      → IsRising entry.heads → rebased stack done (changed_for propagated overflow reason) entry ≡ Some after
      → IsRising after.heads
  rebased_rising stack done propagated overflow reason entry after rising is =
      at (is_rebased stack done (changed_for propagated overflow reason) entry after is)
    where
      at : IsRebased stack done (changed_for propagated overflow reason) entry after → IsRising after.heads
      at (Still other same) = subst (λ (e : ProvisionalCacheEntry X I R A T). IsRising e.heads) same rising
      at (NotUsed head top place none new) = subst IsRising (sym new.same_heads)
          (left_rise (λ _. path_of_no_step) (λ _. no_usages) done.state.heads entry.heads rising)
      at (Used head changed top place used keeps ends new) =
          subst IsRising (sym new.same_heads)
          (left_rise (λ h. extended_by_each head.1.paths_to_head h.paths_to_head)
          (λ h. h.usages) done.state.heads changed.heads
          (subst IsRising
          (sym (changed_heads_same propagated overflow reason head.1.usages entry changed ends)) rising))
