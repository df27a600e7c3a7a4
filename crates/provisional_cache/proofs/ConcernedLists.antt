-- Entries that aren't concerned by a goal that is done stay as they are.
use Rattle.std.proofs.Common.{◌≡◌, ℕ, ◌+◌, ◌<◌, nat_eq, Bool, true, false, cond, ◌||◌, drop, get_or, length, List, []}
use Rattle.std.proofs.Common.{◌∷◌, Option, Some, None, refl, sym, ap, ◌∙◌}
use Rattle.std.proofs.lemmas.Bool.{or_parts}
use Rattle.std.proofs.lemmas.List.{drop_more}
use Rattle.std.specs.List.{cons_option, filter_map, list_any}
use Rattle.std.specs.Map.{lookup}
use Rattle.std.specs.Option.{option_map, unwrap_or}
use Rattle.provisional_cache.specs.Below.{StackDepth, CycleHead, HeadUsages, highest, StackEntry}
use Rattle.provisional_cache.specs.Words.{ProvisionalCacheEntry, Lists, entries_at, rebased, rebased_at, highest_passes}

-- whether the highest head is at the depth
abbrev pub is_concerned : {X I R A T : Type 0} → ℕ → ProvisionalCacheEntry X I R A T → Bool
is_concerned depth entry = highest_passes (λ at _. nat_eq at depth) entry.heads

-- whether a goal's list has such an entry
abbrev pub has_concerned : {K X I R A T : Type 0} → ℕ → K × List (ProvisionalCacheEntry X I R A T) → Bool
has_concerned depth list = list_any (is_concerned depth) list.1

-- where no list has an element that passes, that of a goal has none
pub none_at : {I E : Type 0} (same : I → I → Bool) (test : E → Bool) (lists : Lists I E)
    → list_any (λ list. list_any test list.1) lists ≡ false
    → (input : I) → list_any test (entries_at same lists input) ≡ false
none_at same test [] none input = refl
none_at same test (l ∷ ls) none input =
    let apart = or_parts (list_any test l.1) (list_any (λ list. list_any test list.1) ls) none in
    let P : Bool → Type 0 = λ b. list_any test (unwrap_or (cond b (Some l.1) (lookup (same input) ls)) []) ≡ false in
    elim (same input l.0) as P [ true ↦ apart.0 | false ↦ none_at same test ls apart.1 input ]

module _ {X I R A T : Type 0} (stack : List (StackEntry X I R A T)) (done : StackEntry X I R A T)
    (change_entry : HeadUsages → ProvisionalCacheEntry X I R A T → Option (ProvisionalCacheEntry X I R A T))
    (depth : ℕ) (at : depth ≡ length stack) where
  -- an entry that isn't concerned stays
  pub stays : (entry : ProvisionalCacheEntry X I R A T) → is_concerned depth entry ≡ false
      → rebased stack done change_entry entry ≡ Some entry
  stays entry apart =
      let P : Option (StackDepth × CycleHead) → Type 0 =
      λ o. unwrap_or (option_map (λ (h : StackDepth × CycleHead). nat_eq h.0.0 depth) o) false ≡ false
      → rebased_at stack done change_entry entry o ≡ Some entry in
      (elim (highest entry.heads) as P [
        | None ↦ λ _. refl
        | Some head ↦ λ apart. let other : nat_eq head.0.0 (length stack) ≡ false = rw (← at) apart in rw other refl
      ]) apart

  -- and so does a list of them
  pub all_stay : (entries : List (ProvisionalCacheEntry X I R A T)) → list_any (is_concerned depth) entries ≡ false
      → filter_map (rebased stack done change_entry) entries ≡ entries
  all_stay [] none = refl
  all_stay (e ∷ es) none =
      let apart = or_parts (is_concerned depth e) (list_any (is_concerned depth) es) none in
      ap (λ o. cons_option o (filter_map (rebased stack done change_entry) es)) (stays e apart.0)
      ∙ ap (λ l. e ∷ l) (all_stay es apart.1)

module _ {L : Type 0} (test : L → Bool) (first : L) (rest left : List L) (is : left ≡ first ∷ rest) (found : Bool)
    (so_far : list_any test left ≡ found) where
  -- where the first one passes, one passes
  pub first_passes : true ≡ test first → true ≡ found
  first_passes passes = ap (λ b. b || list_any test rest) passes ∙ ap (list_any test) (sym is) ∙ so_far

  -- where it doesn't, the others tell
  pub others_tell : test first ≡ false → list_any test rest ≡ found
  others_tell apart = sym (ap (λ b. b || list_any test rest) apart) ∙ ap (list_any test) (sym is) ∙ so_far

-- the same where the list is gone through by its places
module _ {L : Type 0} (test : L → Bool) (xs : List L) (i : ℕ) (x : L) (within : i < length xs) (is : x ≡ get_or xs i x)
    (so_far : list_any test (drop i xs) ≡ list_any test xs) where
  starts : drop i xs ≡ x ∷ drop (i + 1) xs
  starts = drop_more xs i x within ∙ ap (λ y. y ∷ drop (i + 1) xs) (sym is)

  pub here_passes : test x ≡ true → true ≡ list_any test xs
  here_passes passes = first_passes test x (drop (i + 1) xs) (drop i xs) starts (list_any test xs) so_far (sym passes)

  pub later_tell : test x ≡ false → list_any test (drop (i + 1) xs) ≡ list_any test xs
  later_tell apart = others_tell test x (drop (i + 1) xs) (drop i xs) starts (list_any test xs) so_far apart
