-- What holds of each element, and of one more or another one.
use Rattle.std.proofs.Common.{◌≡◌, ◌<◌, ℕ, zero, suc, ◌⊎◌, inl, inr, List, [], ◌∷◌, ◌++◌, length, Some}
use Rattle.std.proofs.Common.{refl, sym, ◌∙◌, ap, subst, set, get_or, arith}
use Rattle.std.specs.Prelude.{slice_get}
use Rattle.std.proofs.lemmas.Option.{get_or_from_slice_get, slice_get_within}
use Rattle.trait_rules.specs.Numbered.{Keeps}
use Rattle.trait_texts.specs.WellFormed.{Each}

some_same : {A : Type 0} (x y : A) → Some x ≡ Some y → x ≡ y
some_same x y e = cc

-- what has a place in a longer list had it before, or is the new one
in_longer : {A : Type 0} (xs : List A) (y : A) (n : ℕ) (x : A) → slice_get (xs ++ y ∷ []) n ≡ Some x
    → (slice_get xs n ≡ Some x) ⊎ ((n ≡ length xs) × (x ≡ y))
in_longer [] y zero x e = inr (omega arith, sym (some_same y x e))
in_longer [] y (suc n) x e = absurd cc
in_longer (z ∷ xs) y zero x e = inl e
in_longer (z ∷ xs) y (suc n) x e =
    elim (in_longer xs y n x e) [ inl w ↦ inl w | inr w ↦ inr (omega (arith, w.0), w.1) ]

-- what has a place in a list with another element had it before, or is that one
in_set : {A : Type 0} (xs : List A) (i : ℕ) (y : A) (n : ℕ) (x : A) → slice_get (set xs i y) n ≡ Some x
    → (slice_get xs n ≡ Some x) ⊎ ((n ≡ i) × ((x ≡ y) × ((z : A) × (slice_get xs i ≡ Some z))))
in_set [] i y n x e = inl e
in_set (z ∷ xs) zero y zero x e = inr (refl, (sym (some_same y x e), (z, refl)))
in_set (z ∷ xs) zero y (suc n) x e = inl e
in_set (z ∷ xs) (suc i) y zero x e = inl e
in_set (z ∷ xs) (suc i) y (suc n) x e =
    elim (in_set xs i y n x e) [ inl w ↦ inl w | inr w ↦ inr (ap suc w.0, w.1) ]

module _ {A : Type 0} (P : ℕ → A → Type 0) where
  pub each_nil : Each P []
  each_nil = record { at = λ n x e. absurd cc }

  pub each_empty : (xs : List A) → xs ≡ [] → Each P xs
  each_empty xs is = subst (λ (l : List A). Each P l) (sym is) each_nil

  pub each_push : (xs ys : List A) (y : A) → Each P xs → P (length xs) y → ys ≡ xs ++ y ∷ [] → Each P ys
  each_push xs ys y h p is = record {
    at = λ n x e. elim (in_longer xs y n x (subst (λ (l : List A). slice_get l n ≡ Some x) is e)) [
      | inl w ↦ h.at n x w
      | inr w ↦ subst (λ m. P m x) (sym w.0) (subst (λ z. P (length xs) z) (sym w.1) p)
    ];
  }

  -- another element in the place of one of which the same holds
  pub each_set : (xs : List A) (i : ℕ) (x y : A) → Each P xs → x ≡ get_or xs i x → (P i x → P i y)
      → Each P (set xs i y)
  each_set xs i x y h is step = record {
    at = λ n w e. elim (in_set xs i y n w e) [
      | inl v ↦ h.at n w v
      | inr v ↦ let z = v.1.1 in
          let same : z.0 ≡ x = sym (get_or_from_slice_get xs i z.0 x z.1) ∙ sym is in
          let new : P i y = step (subst (λ a. P i a) same (h.at i z.0 z.1)) in
          subst (λ m. P m w) (sym v.0) (subst (λ a. P i a) (sym v.1.0) new)
    ];
  }

  pub each_weaker : (Q : ℕ → A → Type 0) (xs : List A) → ((n : ℕ) (x : A) → P n x → Q n x) → Each P xs → Each Q xs
  each_weaker Q xs weaker h = record { at = λ n x e. weaker n x (h.at n x e) }

there : {A : Type 0} (xs : List A) (n : ℕ) → n < length xs → (x : A) × (slice_get xs n ≡ Some x)
there [] n within = absurd (omega arith)
there (x ∷ xs) zero within = (x, refl)
there (x ∷ xs) (suc n) within = there xs n (omega arith)

pub keeps_within : {A : Type 0} (xs ys : List A) → Keeps xs ys → (n : ℕ) → n < length xs → n < length ys
keeps_within xs ys k n within =
    let x = there xs n within in slice_get_within ys n x.0 (k.at n x.0 x.1)
