-- A list whose last element is changed.
use Rattle.std.proofs.Common.{◌≡◌, ℕ, zero, suc, ◌+◌, ◌<◌, List, [], ◌∷◌, length, map, get_or, slice_set, refl, ap}
use Rattle.std.proofs.Common.{◌∙◌, arith}
use Rattle.search_stack.specs.Words.{change_last}

module _ {E : Type 0} where
  set_is_change_last : (f : E → E) (es : List E) (n : ℕ) (d : E) → suc n ≡ length es
      → slice_set es n (f (get_or es n d)) ≡ change_last f es
  set_is_change_last f (x ∷ []) zero d at = refl
  set_is_change_last f (x ∷ y ∷ es) (suc n) d at = ap (λ l. x ∷ l) (set_is_change_last f (y ∷ es) n d (omega arith))
  set_is_change_last f _ _ d at = absurd (omega arith)

  -- e is the last element, read at its index n
  pub change_last_from_set : (f : E → E) (es : List E) (n : ℕ) (e : E) → n + 1 ≡ length es → e ≡ get_or es n e
      → slice_set es n (f e) ≡ change_last f es
  change_last_from_set f es n e at is = ap (λ x. slice_set es n (f x)) is ∙ set_is_change_last f es n e (omega arith)

  pub map_change_last : {B : Type 0} (g : E → B) (f : E → E) → ((e : E) → g (f e) ≡ g e) → (es : List E)
      → map g (change_last f es) ≡ map g es
  map_change_last g f kept [] = refl
  map_change_last g f kept (x ∷ []) = ap (λ y. y ∷ []) (kept x)
  map_change_last g f kept (x ∷ y ∷ es) = ap (λ l. g x ∷ l) (map_change_last g f kept (y ∷ es))

  pub length-change_last : (f : E → E) (es : List E) → length (change_last f es) ≡ length es
  length-change_last f [] = refl
  length-change_last f (x ∷ []) = refl
  length-change_last f (x ∷ y ∷ es) = ap suc (length-change_last f (y ∷ es))

  pub some_element : (es : List E) → 0 < length es → E
  some_element [] h = absurd (omega (arith, h))
  some_element (x ∷ es) h = x
