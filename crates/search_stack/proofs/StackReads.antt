-- What is read of a stack is read of its last entry.
use Rattle.std.proofs.Common.{◌≡◌, ◌≢◌, ℕ, zero, suc, ◌-◌, ◌/◌, ◌<◌, true, false, List, [], ◌∷◌, length, get_or, Some}
use Rattle.std.proofs.Common.{None, refl, sym, ap, ◌∙◌, arith}
use Rattle.std.proofs.lemmas.Bool.{false≢true}
use Rattle.std.proofs.lemmas.Bool.Decides.{nat_tests}
use Rattle.search_stack.specs.Words.{StackEntry, depth_below, allowed_depth}

-- a list that is not told to be empty
pub nonempty : {E : Type 0} (xs : List E) → (xs ≡ [] → false ≡ true) → 0 < length xs
nonempty [] empty = absurd (false≢true (empty refl))
nonempty (x ∷ xs) empty = omega arith

module _ {X I R A T : Type 0} where
  last_allows : (divisor root n : ℕ) (e : StackEntry X I R A T) (entries : List (StackEntry X I R A T))
      → suc n ≡ length entries → allowed_depth divisor root entries ≡ depth_below divisor (get_or entries n e)
  last_allows divisor root zero e (x ∷ []) at = refl
  last_allows divisor root (suc n) e (x ∷ y ∷ es) at = last_allows divisor root n e (y ∷ es) (omega arith)
  last_allows divisor root _ e _ at = absurd (omega arith)

  -- e is the last entry
  module _ (divisor root depth : ℕ) (e : StackEntry X I R A T) (entries : List (StackEntry X I R A T))
      (some : 0 < length entries) (last : e ≡ get_or entries (length entries - 1) e)
      (depth_is : depth ≡ e.available_depth.0) where
    allowed : allowed_depth divisor root entries ≡ depth_below divisor e
    allowed =
        last_allows divisor root (length entries - 1) e entries (omega arith) ∙ ap (depth_below divisor) (sym last)

    pub none_allowed : depth ≡ 0 → None ≡ allowed_depth divisor root entries
    none_allowed none = sym (allowed ∙ grind (arith, nat_tests))

    pub divided_allowed : depth ≢ 0 → e.state.encountered_overflow ≡ true
        → Some (depth / divisor) ≡ allowed_depth divisor root entries
    divided_allowed some_depth overflow = sym (allowed ∙ grind (arith, nat_tests))

    pub next_allowed : depth ≢ 0 → e.state.encountered_overflow ≡ false
        → Some (depth - 1) ≡ allowed_depth divisor root entries
    next_allowed some_depth calm = sym (allowed ∙ grind (arith, nat_tests))
