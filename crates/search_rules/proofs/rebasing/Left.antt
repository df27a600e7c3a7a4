-- What the rule of rebasing leaves of an entry: its result with its node, or a result without a verdict and no node;
-- and heads, which are those of the entry and of the goal that is done, without that goal's place.
use Rattle.std.proofs.Common.{◌≡◌, ◌≢◌, ◌≤◌, Bool, true, false, if◌then◌else◌, List, [], length, Option, Some, None}
use Rattle.std.proofs.Common.{IsSome, refl, sym, ap, ◌∙◌, subst, ◌⊎◌, inl, inr, arith}
use Rattle.open_graphs.specs.Graph as theory
use Rattle.search_rules.specs.Below.{IsLeftHead, StackDepth, PathsToNested, CycleHead, HeadUsages, at_depth, highest}
use Rattle.search_rules.specs.Below.{IsRising, extended_by_each, path_of_no_step, has_usages, no_usages, other_usages}
use Rattle.search_rules.specs.Below.{StackEntry, ProvisionalCacheEntry, RebaseReason, NoCycleUsages, Ambiguity}
use Rattle.search_rules.specs.Below.{Overflow, ReachedFixpoint, but_highest, rebased, changed_for, with_unused}
use Rattle.search_rules.specs.Below.{with_used, verdict_of, Verdicts}
use Rattle.search_rules.specs.Words.{depths_of, LieBelow}
use Rattle.search_rules.proofs.rebasing.HeadOrder.{ascends, at_most_highest, highest_there, no_highest}
use Rattle.search_rules.proofs.rebasing.Cases.{HasNewHead, IsRebased, NotUsed, Still, Used, is_rebased}
use Rattle.search_rules.proofs.rebasing.Rising.{changed_heads_same}
use Rattle.search_rules.proofs.rebasing.Shapes.{left_there, with_all}

module _ {X I R A T : Type 0} (says : Verdicts R) where
  -- the result and the node stay, or the result has no verdict and no node
  abbrev pub KeepsResult : (before after : ProvisionalCacheEntry X I R A T) → Type 0
  KeepsResult before after = ((after.result ≡ before.result) × (after.node ≡ before.node))
      ⊎ ((verdict_of says after.result ≡ theory.Neither) × (after.node ≡ None))

  -- ---- what is changed

  module _ (propagated : A → R) (overflow : R)
      (unsure : (info : A) → verdict_of says (propagated info) ≡ theory.Neither)
      (overflow_unsure : verdict_of says overflow ≡ theory.Neither) where
    unchanged : (before after : ProvisionalCacheEntry X I R A T) → Some before ≡ Some after → KeepsResult before after
    unchanged before after is = let same : before ≡ after = cc in subst (KeepsResult before) same (inl (refl, refl))

    replaced : (before after : ProvisionalCacheEntry X I R A T) (result : R) → verdict_of says result ≡ theory.Neither
        → Some (record before { result = result; node = None }) ≡ Some after → KeepsResult before after
    replaced before after result neither is =
        let same : record before { result = result; node = None } ≡ after = cc in
        subst (KeepsResult before) same (inr (neither, refl))

    changed_keeps :
        (reason : RebaseReason X I R A T) (usages : HeadUsages) (before after : ProvisionalCacheEntry X I R A T)
        → changed_for propagated overflow reason usages before ≡ Some after → KeepsResult before after
    changed_keeps NoCycleUsages usages before after is = absurd cc
    changed_keeps (Ambiguity info) usages before after is = replaced before after (propagated info) (unsure info) is
    changed_keeps Overflow usages before after is = replaced before after overflow overflow_unsure is
    changed_keeps (ReachedFixpoint None) usages before after is = unchanged before after is
    changed_keeps (ReachedFixpoint (Some kind)) usages before after is = at (has_usages (other_usages usages kind)) is
      where
        at : (b : Bool) → (if b then None else Some before) ≡ Some after → KeepsResult before after
        at true is = absurd cc
        at false is = unchanged before after is

  -- ---- what is left

  module _ (stack : List (StackEntry X I R A T)) (done : StackEntry X I R A T) where
    -- what is left of an entry
    pub record LeavesEntry (entry after : ProvisionalCacheEntry X I R A T) : Type 0 where
      pub outcome : KeepsResult entry after
      pub some : after.heads ≢ []
      pub left : (depth : StackDepth) → IsSome (at_depth after.heads depth)
          → IsLeftHead (length stack) (depths_of entry.heads) (depths_of done.state.heads) depth.0

    from_middle : (entry middle after : ProvisionalCacheEntry X I R A T) → HasNewHead stack done middle after
        → KeepsResult entry middle → KeepsResult entry after
    from_middle entry middle after new (inl same) = inl (new.same_result ∙ same.0, new.same_node ∙ same.1)
    from_middle entry middle after new (inr gone) =
        inr (ap (verdict_of says) new.same_result ∙ gone.0, new.same_node ∙ gone.1)

    has_heads : (entry : ProvisionalCacheEntry X I R A T) (head : StackDepth × CycleHead)
        → highest entry.heads ≡ Some head → entry.heads ≢ []
    has_heads entry head is none = let wrong : None ≡ Some head = ap highest (sym none) ∙ is in absurd cc

    module _ (propagated : A → R) (overflow : R)
        (unsure : (info : A) → verdict_of says (propagated info) ≡ theory.Neither)
        (overflow_unsure : verdict_of says overflow ≡ theory.Neither) (reason : RebaseReason X I R A T)
        (lower : LieBelow (length stack) done.state.heads)
        (entry after : ProvisionalCacheEntry X I R A T) (rising : IsRising entry.heads)
        (within : (depth : StackDepth) → IsSome (at_depth entry.heads depth) → depth.0 ≤ length stack) where
      -- where another goal is the highest head, the entry stays
      stays : entry.heads ≢ [] → ((head : StackDepth × CycleHead) → highest entry.heads ≡ Some head
          → head.0.0 ≢ length stack) → LeavesEntry entry entry
      stays some other = record {
        outcome = inl (refl, refl);
        some = some;
        left = λ depth there. (at (highest entry.heads) refl depth there, inl there);
      }
        where
          at : (o : Option (StackDepth × CycleHead)) → highest entry.heads ≡ o → (depth : StackDepth)
              → IsSome (at_depth entry.heads depth) → depth.0 ≢ length stack
          at None none depth there = absurd (some (no_highest entry.heads none))
          at (Some head) top_is depth there =
              let asc = ascends entry.heads rising in
              let most = at_most_highest entry.heads head asc top_is depth there in
              let limit = within head.0 (subst IsSome (sym (highest_there entry.heads head asc top_is)) refl) in
              let apart = other head top_is in
              λ same. apart (omega (arith, same, most, limit))

      -- the heads of the goal that is done take the place of that goal
      moved : (head : StackDepth × CycleHead) → highest entry.heads ≡ Some head → head.0.0 ≡ length stack
          → (paths : CycleHead → PathsToNested) (usages : CycleHead → HeadUsages)
          (middle : ProvisionalCacheEntry X I R A T)
          → middle.heads ≡ with_all paths usages done.state.heads (but_highest entry.heads) → KeepsResult entry middle
          → HasNewHead stack done middle after → LeavesEntry entry after
      moved head top_is at paths usages middle heads_are keeps new = record {
        outcome = from_middle entry middle after new keeps;
        some = has_heads after new.head new.is_highest;
        left = λ depth there.
            left_there paths usages entry.heads done.state.heads head (length stack) (ascends entry.heads rising) top_is
            at lower depth (subst (λ h. IsSome (at_depth h depth)) (new.same_heads ∙ heads_are) there);
      }

      pub leaves_entry : entry.heads ≢ []
          → rebased stack done (changed_for propagated overflow reason) entry ≡ Some after → LeavesEntry entry after
      leaves_entry some is = at (is_rebased stack done (changed_for propagated overflow reason) entry after is)
        where
          at : IsRebased stack done (changed_for propagated overflow reason) entry after → LeavesEntry entry after
          at (Still other same) = subst (LeavesEntry entry) same (stays some other)
          at (NotUsed head top_is place none new) =
              moved head top_is place (λ _. path_of_no_step) (λ _. no_usages)
              (record entry { heads = with_unused done.state.heads (but_highest entry.heads) })
              refl (inl (refl, refl)) new
          at (Used head changed top_is place used_there kinds ends new) =
              moved head top_is place (λ h. extended_by_each head.1.paths_to_head h.paths_to_head) (λ h. h.usages)
              (record changed { heads = with_used done.state.heads head.1.paths_to_head (but_highest changed.heads) })
              (ap (λ h. with_used done.state.heads head.1.paths_to_head (but_highest h))
              (changed_heads_same propagated overflow reason head.1.usages entry changed ends))
              (changed_keeps propagated overflow unsure overflow_unsure reason head.1.usages entry changed ends) new
