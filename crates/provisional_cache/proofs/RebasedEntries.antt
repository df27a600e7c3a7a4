-- What an entry becomes, case by case, and which entries are left.
use Rattle.std.proofs.Common.{arith, ◌≡◌, ◌-◌, ◌<◌, ◌↔◌, ℕ, zero, suc, Bool, true, false, not, cond, nat_eq}
use Rattle.std.proofs.Common.{if◌then◌else◌, IsTrue, length, List, [], ◌∷◌, Option, Some, None, Result, Ok, Err, OnOk}
use Rattle.std.proofs.Common.{refl, sym, ap, ◌∙◌, subst, eq-eqb}
use Rattle.std.proofs.lemmas.Bool.Decides.{nat_tests}
use Rattle.std.specs.List.{cons_option, filter, filter_map, slice_get}
use Rattle.std.specs.Option.{is_some, option_map}
use Rattle.provisional_cache.specs.Below.{StackDepth, CycleHead, HeadUsages, Heads, highest, has_usages, StackEntry}
use Rattle.provisional_cache.specs.Words.{ProvisionalCacheEntry, but_highest, from_new_head, keeps_kinds, left_of}
use Rattle.provisional_cache.specs.Words.{rebased, rebased_unused, rebased_used}
use Rattle.provisional_cache.specs.Words.{with_unused, with_used}

some_at : (heads : Heads) (i : ℕ) → i < length heads → is_some (slice_get heads i) ≡ true
some_at [] i within = absurd (omega arith)
some_at (h ∷ hs) zero within = refl
some_at (h ∷ hs) (suc i) within = some_at hs i (omega arith)

-- there is a highest head where there is one
has_highest : (heads : Heads) (none : Bool) → (IsTrue none ↔ (heads ≡ [])) → not none ≡ is_some (highest heads)
has_highest [] none is = ap not (is.1 refl)
has_highest (h ∷ hs) true is = absurd (let none : h ∷ hs ≡ [] = is.0 refl in cc)
has_highest (h ∷ hs) false is = sym (some_at (h ∷ hs) (length (h ∷ hs) - 1) (omega arith))

-- what a test of two places tells
pub at_place : (differs : Bool) (place top count : ℕ) → differs ≡ not (nat_eq place top)
    → top ≡ count → differs ≡ false → place ≡ count
at_place differs place top count tells is same = grind (arith, nat_tests)

pub not_at_place : (differs : Bool) (place top count : ℕ) → differs ≡ not (nat_eq place top) → top ≡ count
    → differs ≡ true → nat_eq place count ≡ false
not_at_place differs place top count tells is other = grind (arith, nat_tests)

module _ {X I R A T : Type 0} where
  -- an entry whose highest head is another one stays
  pub is_other : (stack : List (StackEntry X I R A T)) (done : StackEntry X I R A T)
      (change_entry : HeadUsages → ProvisionalCacheEntry X I R A T → Option (ProvisionalCacheEntry X I R A T))
      (entry : ProvisionalCacheEntry X I R A T) (head : StackDepth × CycleHead)
      → highest entry.heads ≡ Some head → nat_eq head.0.0 (length stack) ≡ false
      → left_of entry ≡ rebased stack done change_entry entry
  is_other stack done change_entry entry head top other = rw (top, other) refl

  module _ (stack : List (StackEntry X I R A T)) (done : StackEntry X I R A T)
      (change_entry : HeadUsages → ProvisionalCacheEntry X I R A T → Option (ProvisionalCacheEntry X I R A T))
      (entry : ProvisionalCacheEntry X I R A T) (head : CycleHead) where
    -- what becomes of an entry whose highest head is the goal that is done, by whether it used that goal
    abbrev pub by_use : Option (ProvisionalCacheEntry X I R A T)
    by_use = if has_usages head.usages then rebased_used stack done change_entry entry head
        else rebased_unused stack done entry

    pub is_by_use : (depth : StackDepth) → highest entry.heads ≡ Some (depth, head) → depth.0 ≡ length stack
        → by_use ≡ rebased stack done change_entry entry
    is_by_use depth top at = rw (top, eq-eqb depth.0 (length stack) at) refl

    pub unused_becomes : {U E : Type 0} (heads : Heads) (r : Result U E) → has_usages head.usages ≡ false
        → OnOk r (heads ≡ with_unused done.state.heads (but_highest entry.heads))
        → OnOk r (from_new_head stack done (record entry { heads = heads }) ≡ by_use)
    unused_becomes heads (Ok _) none is = rw (none, is) refl
    unused_becomes heads (Err _) none is = tt

    pub used_becomes : {U E : Type 0} (changed : ProvisionalCacheEntry X I R A T) (heads : Heads) (r : Result U E)
        → has_usages head.usages ≡ true
        → keeps_kinds stack done entry.path_from_head head.paths_to_head ≡ true
        → Some changed ≡ change_entry head.usages entry
        → OnOk r (heads ≡ with_used done.state.heads head.paths_to_head (but_highest changed.heads))
        → OnOk r (from_new_head stack done (record changed { heads = heads }) ≡ by_use)
    used_becomes changed heads (Ok _) some keeps changes is = rw (some, keeps, ← changes, is) refl
    used_becomes changed heads (Err _) some keeps changes is = tt

    -- and where a cycle would not keep its kind, or the reason drops it
    pub kinds_differ : (after : ProvisionalCacheEntry X I R A T) → after.heads ≡ [] → has_usages head.usages ≡ true
        → keeps_kinds stack done entry.path_from_head head.paths_to_head ≡ false
        → from_new_head stack done after ≡ by_use
    kinds_differ after none some keeps = rw (none, some, keeps) refl

    pub is_dropped : (after : ProvisionalCacheEntry X I R A T) → after.heads ≡ [] → has_usages head.usages ≡ true
        → None ≡ change_entry head.usages entry → from_new_head stack done after ≡ by_use
    is_dropped after none some drops =
        rw (none, some, ← drops) (either None (keeps_kinds stack done entry.path_from_head head.paths_to_head))
      where
        either : {O : Type 0} (o : O) (keeps : Bool) → o ≡ (if keeps then o else o)
        either o true = refl
        either o false = refl

  -- the entries that are left of a list
  pub only_left : (entries : List (ProvisionalCacheEntry X I R A T))
      → filter (λ entry. is_some (left_of entry)) entries ≡ filter_map left_of entries
  only_left [] = refl
  only_left (e ∷ es) =
      let P : Option (StackDepth × CycleHead) → Type 0 = λ o.
      cond (is_some (option_map (λ _. e) o)) (e ∷ filter (λ entry. is_some (left_of entry)) es)
      (filter (λ entry. is_some (left_of entry)) es) ≡ cons_option (option_map (λ _. e) o) (filter_map left_of es) in
      elim (highest e.heads) as P [ None ↦ only_left es | Some _ ↦ ap (λ l. e ∷ l) (only_left es) ]

  -- one is left exactly if it has heads
  pub left_by_heads : (entry : ProvisionalCacheEntry X I R A T) (none : Bool) → (IsTrue none ↔ (entry.heads ≡ []))
      → not none ≡ is_some (left_of entry)
  left_by_heads entry none is = has_highest entry.heads none is ∙ sym (some_mapped (highest entry.heads))
    where
      some_mapped : (o : Option (StackDepth × CycleHead)) → is_some (option_map (λ _. entry) o) ≡ is_some o
      some_mapped None = refl
      some_mapped (Some _) = refl

-- where the usages are of one kind alone, the entry is left
pub left_if_single : {E : Type 0} (single others : Bool) (e : E) → not single ≡ others
    → cond single (Some e) None ≡ (if others then None else Some e)
left_if_single true others e is = subst (λ o. Some e ≡ (if o then None else Some e)) is refl
left_if_single {E} false others e is =
    let P : Bool → Type 0 = λ o. cond false (Some e) None ≡ (if o then None else Some e) in subst P is refl
