-- One more value gets the next number.
use Rattle.std.proofs.Common.{◌≡◌, ℕ, zero, suc, ◌⊎◌, inl, inr, Bool, true, false, cond, List, [], ◌∷◌, ◌++◌, length}
use Rattle.std.proofs.Common.{Option, Some, None, refl, sym, ◌∙◌, ap, subst, arith}
use Rattle.std.specs.Prelude.{slice_get}
use Rattle.std.proofs.lemmas.Bool.{cases_Bool}
use Rattle.trait_rules.specs.Numbered.{AreNumbered, Grows, IsOnce, Keeps}

some_same : {A : Type 0} (x y : A) → Some x ≡ Some y → x ≡ y
some_same x y e = cc

pub at_end : {A : Type 0} (xs : List A) (x : A) (n : ℕ) → n ≡ length xs → slice_get (xs ++ x ∷ []) n ≡ Some x
at_end [] x n e = rw e refl
at_end (y ∷ xs) x zero e = absurd (omega arith)
at_end (y ∷ xs) x (suc n) e = at_end xs x n (omega arith)

pub at_before : {A : Type 0} (xs ys : List A) (n : ℕ) (x : A)
    → slice_get xs n ≡ Some x → slice_get (xs ++ ys) n ≡ Some x
at_before [] ys n x e = absurd cc
at_before (y ∷ xs) ys zero x e = e
at_before (y ∷ xs) ys (suc n) x e = at_before xs ys n x e

-- what has a place in a longer list had it before, or is the new one
pub in_longer : {A : Type 0} (xs : List A) (y : A) (n : ℕ) (x : A) → slice_get (xs ++ y ∷ []) n ≡ Some x
    → (slice_get xs n ≡ Some x) ⊎ ((n ≡ length xs) × (x ≡ y))
in_longer [] y zero x e = inr (omega arith, sym (some_same y x e))
in_longer [] y (suc n) x e = absurd cc
in_longer (z ∷ xs) y zero x e = inl e
in_longer (z ∷ xs) y (suc n) x e =
    elim (in_longer xs y n x e) [ inl w ↦ inl w | inr w ↦ inr (omega (arith, w.0), w.1) ]

pub keeps_same : {A : Type 0} (xs : List A) → Keeps xs xs
keeps_same xs = record { at = λ n x e. e }

pub keeps_then : {A : Type 0} {xs ys zs : List A} → Keeps xs ys → Keeps ys zs → Keeps xs zs
keeps_then h k = record { at = λ n x e. k.at n x (h.at n x e) }

pub keeps_push : {A : Type 0} (xs ys : List A) (x : A) → ys ≡ xs ++ x ∷ [] → Keeps xs ys
keeps_push {A} xs ys x is = record {
  at = λ n key e. subst (λ (l : List A). slice_get l n ≡ Some key) (sym is) (at_before xs (x ∷ []) n key e);
}

pub grows_same : {A : Type 0} (xs : List A) (x : A) → Grows xs xs x
grows_same xs x = record { old = λ n other e. inl e }

pub grows_push : {A : Type 0} (xs ys : List A) (x : A) → ys ≡ xs ++ x ∷ [] → Grows xs ys x
grows_push {A} xs ys x is = record {
  old = λ n other e. in_longer xs x n other (subst (λ (l : List A). slice_get l n ≡ Some other) is e);
}

module _ {K : Type 0} where
  pub is_once : (number : K → Option ℕ) (keys : List K) → AreNumbered number keys → IsOnce keys
  is_once number keys h = record {
    same = λ key n m e f. some_same n m (sym (h.each key n e) ∙ h.each key m f);
  }

  module _ (equal : K → K → Bool) (same_key : (x y : K) → equal x y ≡ true → x ≡ y)
      (own : (x : K) → equal x x ≡ true) where
    pub numbered_push : (number number' : K → Option ℕ) (keys all : List K) (key : K) (n : ℕ) →
        AreNumbered number keys → ((m : ℕ) → slice_get keys m ≡ Some key → ⊥) → n ≡ length keys →
        all ≡ keys ++ key ∷ [] → ((q : K) → number' q ≡ cond (equal key q) (Some n) (number q)) →
        AreNumbered number' all
    numbered_push number number' keys all key n h none is_length is_all at = rw is_all (record {
      found = λ q m e. found q m (equal key q) refl (sym (at q) ∙ e);
      each = λ q m e. at q ∙ elim (in_longer keys key m q e) [
        | inl w ↦ each_old q m (equal key q) refl w
        | inr w ↦ let eq : equal key q ≡ true = subst (λ x. equal key x ≡ true) (sym w.1) (own key) in
            rw eq (ap Some (is_length ∙ sym w.0))
      ];
    })
      where
        found : (q : K) (m : ℕ) (b : Bool) → equal key q ≡ b → cond (equal key q) (Some n) (number q) ≡ Some m
            → slice_get (keys ++ key ∷ []) m ≡ Some q
        found q m true is e =
            let e2 : Some n ≡ Some m = subst (λ b. cond b (Some n) (number q) ≡ Some m) is e in
            at_end keys key m (sym (some_same n m e2) ∙ is_length) ∙ ap Some (same_key key q is)
        found q m false is e =
            let e2 : number q ≡ Some m = subst (λ b. cond b (Some n) (number q) ≡ Some m) is e in
            at_before keys (key ∷ []) m q (h.found q m e2)

        each_old : (q : K) (m : ℕ) (b : Bool) → equal key q ≡ b → slice_get keys m ≡ Some q
            → cond (equal key q) (Some n) (number q) ≡ Some m
        each_old q m true is w =
            absurd (none m (subst (λ x. slice_get keys m ≡ Some x) (sym (same_key key q is)) w))
        each_old q m false is w = rw is (h.each q m w)
