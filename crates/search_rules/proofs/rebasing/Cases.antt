-- The three ways in which the rule of rebasing leaves an entry: it stays; or its highest head was the goal that is
-- done, and the entry didn't use it, or did.
use Rattle.std.proofs.Common.{◌≡◌, ◌≢◌, ℕ, nat_eq, if◌then◌else◌, Bool, true, false, List, length, Option, Some, None}
use Rattle.std.proofs.Common.{refl, sym, ◌∙◌, subst, arith}
use Rattle.std.specs.Option.{option_map, option_and_then}
use Rattle.std.proofs.lemmas.Bool.{false≢true}
use Rattle.std.proofs.lemmas.Bool.Decides.{nat_tests}
use Rattle.search_rules.specs.Below.{StackDepth, CycleHead, HeadUsages, highest, greater_kind, has_usages, StackEntry}
use Rattle.search_rules.specs.Below.{ProvisionalCacheEntry, but_highest, from_head, from_new_head, keeps_kinds, rebased}
use Rattle.search_rules.specs.Below.{rebased_at, rebased_used, rebased_unused, with_used, with_unused}

same_place : (a b : ℕ) → nat_eq a b ≡ true → a ≡ b
same_place a b is = grind (arith, nat_tests)

is_there : (a b : ℕ) → a ≡ b → nat_eq a b ≡ true
is_there a b same = grind (arith, nat_tests)

module _ {X I R A T : Type 0} (stack : List (StackEntry X I R A T)) (done : StackEntry X I R A T) where
  -- an entry with the path from its highest head
  pub record HasNewHead (before after : ProvisionalCacheEntry X I R A T) : Type 0 where
    pub head : StackDepth × CycleHead
    pub is_highest : highest after.heads ≡ Some head
    pub same_heads : after.heads ≡ before.heads
    pub same_result : after.result ≡ before.result
    pub same_node : after.node ≡ before.node
    pub same_overflow : after.encountered_overflow ≡ before.encountered_overflow
    pub path : after.path_from_head ≡ greater_kind before.path_from_head (from_head stack done head.0.0)

  new_head : (before after : ProvisionalCacheEntry X I R A T)
      → from_new_head stack done before ≡ Some after → HasNewHead before after
  new_head before after is = at (highest before.heads) refl is
    where
      at : (o : Option (StackDepth × CycleHead)) → highest before.heads ≡ o
          → option_map (λ (head : StackDepth × CycleHead). record before {
            path_from_head = greater_kind before.path_from_head (from_head stack done head.0.0);
          }) o ≡ Some after → HasNewHead before after
      at None top is = absurd cc
      at (Some head) top is =
          let same : record before {
            path_from_head = greater_kind before.path_from_head (from_head stack done head.0.0);
          } ≡ after = cc in
          subst (HasNewHead before) same (record {
            head = head;
            is_highest = top;
            same_heads = refl;
            same_result = refl;
            same_node = refl;
            same_overflow = refl;
            path = refl;
          })

  module _ (change_entry : HeadUsages → ProvisionalCacheEntry X I R A T → Option (ProvisionalCacheEntry X I R A T))
      (entry after : ProvisionalCacheEntry X I R A T) where
    -- what the rule made of the entry
    pub data IsRebased : Type 0 where
      Still : ((head : StackDepth × CycleHead) → highest entry.heads ≡ Some head → head.0.0 ≢ length stack)
          → entry ≡ after → IsRebased
      NotUsed :
          (head : StackDepth × CycleHead)
          → highest entry.heads ≡ Some head → head.0.0 ≡ length stack → has_usages head.1.usages ≡ false
          → HasNewHead (record entry { heads = with_unused done.state.heads (but_highest entry.heads) }) after
          → IsRebased
      Used :
          (head : StackDepth × CycleHead) (changed : ProvisionalCacheEntry X I R A T)
          → highest entry.heads ≡ Some head → head.0.0 ≡ length stack → has_usages head.1.usages ≡ true
          → keeps_kinds stack done entry.path_from_head head.1.paths_to_head ≡ true
          → change_entry head.1.usages entry ≡ Some changed
          → HasNewHead (record changed {
            heads = with_used done.state.heads head.1.paths_to_head (but_highest changed.heads);
          }) after → IsRebased

    module _ (head : StackDepth × CycleHead) (top : highest entry.heads ≡ Some head)
        (place : head.0.0 ≡ length stack) where
      taken : has_usages head.1.usages ≡ true → keeps_kinds stack done entry.path_from_head head.1.paths_to_head ≡ true
          → (o : Option (ProvisionalCacheEntry X I R A T)) → change_entry head.1.usages entry ≡ o
          → option_and_then (λ changed. from_new_head stack done (record changed {
            heads = with_used done.state.heads head.1.paths_to_head (but_highest changed.heads);
          })) o ≡ Some after → IsRebased
      taken some keeps None ends is = absurd cc
      taken some keeps (Some changed) ends is = Used head changed top place some keeps ends (new_head (record changed {
        heads = with_used done.state.heads head.1.paths_to_head (but_highest changed.heads);
      }) after is)

      tested : has_usages head.1.usages ≡ true → (b : Bool)
          → keeps_kinds stack done entry.path_from_head head.1.paths_to_head ≡ b
          → (if b then option_and_then (λ changed. from_new_head stack done (record changed {
            heads = with_used done.state.heads head.1.paths_to_head (but_highest changed.heads);
          })) (change_entry head.1.usages entry) else None) ≡ Some after → IsRebased
      tested some false keeps is = absurd cc
      tested some true keeps is = taken some keeps (change_entry head.1.usages entry) refl is

      used : (b : Bool) → has_usages head.1.usages ≡ b
          → (if b then rebased_used stack done change_entry entry head.1 else rebased_unused stack done entry)
          ≡ Some after → IsRebased
      used true some is = tested some (keeps_kinds stack done entry.path_from_head head.1.paths_to_head) refl is
      used false none is = NotUsed head top place none
          (new_head (record entry { heads = with_unused done.state.heads (but_highest entry.heads) }) after is)

    pub is_rebased : rebased stack done change_entry entry ≡ Some after → IsRebased
    is_rebased is = at (highest entry.heads) refl is
      where
        stays : ((head : StackDepth × CycleHead) → highest entry.heads ≡ Some head → head.0.0 ≢ length stack)
            → Some entry ≡ Some after → IsRebased
        stays other is = Still other cc

        placed : (head : StackDepth × CycleHead) → highest entry.heads ≡ Some head → (b : Bool)
            → nat_eq head.0.0 (length stack) ≡ b
            → (if b then (if has_usages head.1.usages then rebased_used stack done change_entry entry head.1
            else rebased_unused stack done entry) else Some entry) ≡ Some after → IsRebased
        placed head top true same is =
            used head top (same_place head.0.0 (length stack) same) (has_usages head.1.usages) refl is
        placed head top false other is =
            stays
            (λ found top_is same.
            let both : Some found ≡ Some head = sym top_is ∙ top in
            let one : found ≡ head = cc in
            false≢true (sym other ∙ is_there head.0.0 (length stack)
            (subst (λ (h : StackDepth × CycleHead). h.0.0 ≡ length stack) one same))) is

        at : (o : Option (StackDepth × CycleHead)) → highest entry.heads ≡ o
            → rebased_at stack done change_entry entry o ≡ Some after → IsRebased
        at None none is = stays (λ head top. (let wrong : None ≡ Some head = sym none ∙ top in absurd cc)) is
        at (Some head) top is = placed head top (nat_eq head.0.0 (length stack)) refl is
