-- A number stands for one type, and a type has one number.
use Rattle.std.proofs.Common.{◌≡◌, ◌<◌, ◌≤◌, ◌+◌, ℕ, zero, suc, List, [], ◌∷◌, ◌++◌, length, Option, Some, None}
use Rattle.std.proofs.Common.{refl, sym, ◌∙◌, ap, ap₂, subst, arith}
use Rattle.std.specs.Prelude.{slice_get, ◌⊎◌}
use Rattle.std.proofs.Common.{inl, inr}
use Rattle.std.proofs.lemmas.Option.{slice_get_within}
use Rattle.trait_rules.specs.Numbered.{Grows, IsOnce, Keeps}
use Rattle.trait_rules.specs.Terms.{Applied, ArePartsFirst, Constructor, Made, Stands, Term, applied, applied_at}
use Rattle.trait_rules.specs.Terms.{constructor, constructor_at, constructor_of}
use Rattle.trait_rules.proofs.Numbers.{in_longer}

-- what it stands for in a list, it stands for in one that keeps that
pub stands_in : {made more : List Made} → Keeps made more → (number : ℕ) (term : Term) → Stands made number term
    → Stands more number term
stands_in k number (constructor c) (constructor_at e) = constructor_at (k.at number (Constructor c) e)
stands_in k number (applied g y) (applied_at {f = f} {x = x} e h i) =
    applied_at (k.at number (Applied f x) e) (stands_in k f g h) (stands_in k x y i)

module _ (made : List Made) where
  -- a number stands for one type
  pub one_term : (number : ℕ) (s t : Term) → Stands made number s → Stands made number t → s ≡ t
  one_term number (constructor c) (constructor d) (constructor_at e) (constructor_at f) =
      let same : Some (Constructor c) ≡ Some (Constructor d) = sym e ∙ f in cc
  one_term number (constructor c) (applied g y) (constructor_at e) (applied_at {f = f} {x = x} i j k) =
      let same : Some (Constructor c) ≡ Some (Applied f x) = sym e ∙ i in absurd cc
  one_term number (applied g y) (constructor c) (applied_at {f = f} {x = x} i j k) (constructor_at e) =
      let same : Some (Constructor c) ≡ Some (Applied f x) = sym e ∙ i in absurd cc
  one_term number (applied g y) (applied h z) (applied_at {f = f} {x = x} e i j) (applied_at {f = f'} {x = x'} k l m) =
      let same : Some (Applied f x) ≡ Some (Applied f' x') = sym e ∙ k in
      let sf : f' ≡ f = cc in let sx : x' ≡ x = cc in
      ap₂ applied (one_term f g h i (subst (λ n. Stands made n h) sf l)) (one_term x y z j (subst (λ n. Stands made n
      z) sx m))

  -- a type has one number
  pub one_number : IsOnce made → (n m : ℕ) (t : Term) → Stands made n t → Stands made m t → n ≡ m
  one_number once n m (constructor c) (constructor_at e) (constructor_at f) = once.same (Constructor c) n m e f
  one_number once n m (applied g y) (applied_at {f = f} {x = x} e i j) (applied_at {f = f'} {x = x'} k l o) =
      let sf : f ≡ f' = one_number once f f' g i l in
      let sx : x ≡ x' = one_number once x x' y j o in
      once.same (Applied f x) n m e
      (subst (λ v. slice_get made m ≡ Some (Applied f v)) (sym sx) (subst (λ v. slice_get made m ≡ Some (Applied v
      x')) (sym sf) k))

  -- each number of a list stands for a type
  abbrev pub HasTerm : ℕ → Type 0
  HasTerm number = (term : Term) × Stands made number term

  has_by : ArePartsFirst made → ((n : ℕ) (f x : ℕ) → slice_get made n ≡ Some (Applied f x) →
      (f < length made) × (x < length made))
      → (most number : ℕ) → number < most → (o : Option Made) → slice_get made number ≡ o → number < length made →
      HasTerm number
  has_by first inside zero number less o e within = absurd (omega arith)
  has_by first inside (suc most) number less None e within = absurd (none number within e)
    where
      none : (n : ℕ) → n < length made → slice_get made n ≡ None → ⊥
      none = none_in made
        where
          none_in : (xs : List Made) (n : ℕ) → n < length xs → slice_get xs n ≡ None → ⊥
          none_in [] n h e = absurd (omega arith)
          none_in (x ∷ xs) zero h e = absurd cc
          none_in (x ∷ xs) (suc n) h e = none_in xs n (omega arith) e
  has_by first inside (suc most) number less (Some (Constructor c)) e within = (constructor c, constructor_at e)
  has_by first inside (suc most) number less (Some (Applied f x)) e within =
      let b = first.before number f x e in
      let i = inside number f x e in
      let g = has_by first inside most f (omega (arith, b.0)) (slice_get made f) refl i.0 in
      let y = has_by first inside most x (omega (arith, b.1)) (slice_get made x) refl i.1 in
      (applied g.0 y.0, applied_at e g.1 y.1)

  pub has_term : ArePartsFirst made → (number : ℕ) → number < length made → HasTerm number
  has_term first number within =
      has_by first (λ n f x e. let b = first.before n f x e in let w = slice_get_within made n (Applied f x) e in
      (omega (arith, b.0, w), omega (arith, b.1, w))) (suc number) number (omega arith) (slice_get made number) refl
      within

  -- what is made by a constructor alone has that one outermost
  pub outermost_is : (number c : ℕ) (t : Term) → slice_get made number ≡ Some (Constructor c) → Stands made number t
      → constructor_of t ≡ c
  outermost_is number c t e s = ap constructor_of (one_term number t (constructor c) s (constructor_at e))

  -- the type of a number has the outermost constructor of that of another one
  pub record HasOutermost (number at : ℕ) : Type 0 where
    pub same : (term : Term) → Stands made number term →
        (part : Term) × (Stands made at part × (constructor_of part ≡ constructor_of term))

  pub outermost_part : (number at f x : ℕ) → HasOutermost number at → slice_get made at ≡ Some (Applied f x) →
      HasOutermost number f
  outermost_part number at f x h e = record { same = λ term s. let p = h.same term s in step p.0 p.1.0 (p.1.1) }
    where
      step : {c : ℕ} (part : Term) → Stands made at part → constructor_of part ≡ c →
          (inner : Term) × (Stands made f inner × (constructor_of inner ≡ c))
      step (constructor d) (constructor_at i) same = let no : Some (Applied f x) ≡ Some (Constructor d) = sym e
          ∙ i in absurd cc
      step (applied g y) (applied_at {f = f'} {x = x'} i j k) same =
          let is : Some (Applied f' x') ≡ Some (Applied f x) = sym i ∙ e in
          let sf : f' ≡ f = cc in (g, (subst (λ n. Stands made n g) sf j, same))

  pub outermost_found : (number at c : ℕ) → HasOutermost number at → slice_get made at ≡ Some (Constructor c) →
      (term : Term) → Stands made number term → Some c ≡ Some (constructor_of term)
  outermost_found number at c h e term s =
      let p = h.same term s in ap Some (sym (outermost_is at c p.0 e p.1.0) ∙ p.1.1)

  pub never_nothing : (number at : ℕ) → HasOutermost number at → slice_get made at ≡ None → (term : Term) →
      Stands made number term → ⊥
  never_nothing number at h e term s = let p = h.same term s in by p.0 p.1.0
    where
      by : (part : Term) → Stands made at part → ⊥
      by (constructor d) (constructor_at i) = cc
      by (applied g y) (applied_at i j k) = cc

-- one more type whose parts are there
pub first_more : (made all : List Made) (more : Made) → ArePartsFirst made → Grows made all more →
    ((f x : ℕ) → more ≡ Applied f x → (f < length made) × (x < length made)) → ArePartsFirst all
first_more made all more first grows inside = record {
  before = λ n g y e. elim (grows.old n (Applied g y) e) [
    | inl w ↦ first.before n g y w
    | inr w ↦ let i = inside g y (sym w.1) in (omega (arith, w.0, i.0), omega (arith, w.0, i.1))
  ];
}
