-- The types of a rule's shapes are made one after another.
use Rattle.std.proofs.Common.{◌≡◌, ◌<◌, ◌≤◌, ◌+◌, ℕ, zero, suc, ◌⊎◌, inl, inr, List, [], ◌∷◌, ◌++◌, length, take}
use Rattle.std.proofs.Common.{Option, Some, None}
use Rattle.std.proofs.Common.{refl, sym, ◌∙◌, ap₂, subst, arith}
use Rattle.std.specs.Prelude.{slice_get}
use Rattle.std.specs.Option.{IfSome}
use Rattle.std.proofs.lemmas.Option.{slice_get_cases, slice_get_within}
use native.Mathlib.Decide.{dec_lt}
use Rattle.trait_rules.specs.declared.rules.Shape.TheVariants.{Parameter, Constructor, Applied}
use Rattle.trait_rules.specs.declared.made.Made.TheVariants.{Applied as MadeApplied, Constructor as MadeConstructor}
use Rattle.trait_rules.specs.Terms.{applied, constructor}
use Rattle.trait_rules.proofs.Numbers.{at_before, at_end, in_longer, keeps_same, keeps_then}
use Rattle.trait_rules.proofs.Standing.{has_term, one_number, one_term, stands_in}
use Rattle.trait_goals.specs.Below.{ArePartsFirst, IsInstance, IsOnce, IsShaped, Keeps, Made, Rule, Shape, Stands, Term}
use Rattle.trait_goals.specs.Finding.{AreCompleted, HasInstance}
use Rattle.trait_goals.specs.Instances.{AllTold, AreMade, AreTold, IsMade}
use Rattle.trait_goals.proofs.Matching.{is_constructor, parts_of}

-- what is among the first so many stands there in the whole list
taken : {A : Type 0} (xs : List A) (count n : ℕ) (x : A) → slice_get (take count xs) n ≡ Some x
    → (n < count) × (slice_get xs n ≡ Some x)
taken xs zero n x e = absurd cc
taken [] (suc count) n x e = absurd cc
taken (y ∷ xs) (suc count) zero x e = (omega arith, e)
taken (y ∷ xs) (suc count) (suc n) x e = let w = taken xs count n x e in (omega (arith, w.0), w.1)

within : {A : Type 0} (xs : List A) (count n : ℕ) (x : A) → n < count → slice_get xs n ≡ Some x →
    slice_get (take count xs) n ≡ Some x
within xs zero n x less e = absurd (omega arith)
within [] (suc count) n x less e = absurd cc
within (y ∷ xs) (suc count) zero x less e = e
within (y ∷ xs) (suc count) (suc n) x less e = within xs count n x (omega arith) e

-- what was made so is so among more types
still_made : (was made : List Made) (all more : List ℕ) (shape : Shape) (number : ℕ) → Keeps was made →
    ((n x : ℕ) → slice_get all n ≡ Some x → slice_get more n ≡ Some x) → length was ≤ length made →
    IsMade was all shape number → IsMade made more shape number
still_made was made all more Parameter number keeps k longer is = omega (arith, is)
still_made was made all more (Constructor c) number keeps k longer is = keeps.at number (MadeConstructor c) is
still_made was made all more (Applied f x) number keeps k longer is =
    (is.0, (is.1.0, (k f is.0 is.1.1.0, (k x is.1.0 is.1.1.1.0, keeps.at number (MadeApplied is.0 is.1.0) is.1.1.1.1))))

pub keeps_length : (was made : List Made) → Keeps was made → length was ≤ length made
keeps_length was made keeps = by (length was) refl
  where
    last_there : (xs : List Made) (n : ℕ) → n < length xs → (x : Made) × (slice_get xs n ≡ Some x)
    last_there [] n less = absurd (omega arith)
    last_there (x ∷ xs) zero less = (x, refl)
    last_there (x ∷ xs) (suc n) less = last_there xs n (omega arith)

    by : (count : ℕ) → length was ≡ count → length was ≤ length made
    by zero e = omega (arith, e)
    by (suc n) e =
        let l = last_there was n (omega (arith, e)) in
        let w = slice_get_within made n l.0 (keeps.at n l.0 l.1) in omega (arith, e, w)

pub none_completed : (made : List Made) (rule : Rule) (found : List (Option ℕ)) → AreCompleted made made rule found 0 []
none_completed made rule found = record {
  keeps = keeps_same made;
  is_count = refl;
  are_made = record { each = λ place shape e. absurd cc };
  told = λ types term t i. record { told = λ place number e. absurd cc };
}

module _ (was made now : List Made) (rule : Rule) (found : List (Option ℕ)) (count : ℕ) (all more : List ℕ) (shape :
    Shape)
    (noted : Option ℕ) (number : ℕ) where
  pub completed_more : AreCompleted was made rule found count all → slice_get rule.shapes.items count ≡ Some shape →
      more ≡ all ++ number ∷ [] → Keeps made now → IsMade now all shape number →
      IfSome noted (λ n. slice_get found (length all) ≡ Some (Some n)) →
      ((types : ℕ → Term) (term : Term) → AllTold made all types → IsShaped types shape term →
      IfSome noted (λ n. Stands made n term) → Stands now number term) →
      AreCompleted was now rule found (count + 1) more
  completed_more done at is keeps new is_noted told = record {
    keeps = keeps_then done.keeps keeps;
    is_count = subst (λ l. length l ≡ count + 1) (sym is) (longer all number (done.is_count));
    are_made = record {
      each = λ place s e. let t = taken rule.shapes.items (count + 1) place s e in
          each place s t.0 t.1;
    };
    told = λ types term t i. record {
      told = λ place n e. stands types term t i place n (in_longer all number place n
          (subst (λ l. slice_get l place ≡ Some n) is e));
    };
  }
    where
      longer : (xs : List ℕ) (x : ℕ) → length xs ≡ count → length (xs ++ x ∷ []) ≡ count + 1
      longer xs x e = let l = at_length xs x in omega (arith, l, e)
        where
          at_length : (ys : List ℕ) (y : ℕ) → length (ys ++ y ∷ []) ≡ length ys + 1
          at_length [] y = refl
          at_length (z ∷ ys) y = let h = at_length ys y in omega (arith, h)

      lengthens : (n x : ℕ) → slice_get all n ≡ Some x → slice_get more n ≡ Some x
      lengthens n x e = subst (λ l. slice_get l n ≡ Some x) (sym is) (at_before all (number ∷ []) n x e)

      each : (place : ℕ) (s : Shape) → place < count + 1 → slice_get rule.shapes.items place ≡ Some s →
          (n : ℕ) × ((slice_get more place ≡ Some n) × IsMade now more s n)
      each place s less e = elim (split place less) [
        | inl before ↦ let w = done.are_made.each place s (within rule.shapes.items count place s before e) in (
          w.0,
          (
            lengthens place w.0 w.1.0,
            still_made made now all more s w.0 keeps lengthens (keeps_length made
                now keeps) w.1.1,
          ),
        )
        | inr last ↦
            let same : Some s ≡ Some shape = sym e ∙ subst (λ p. slice_get rule.shapes.items p ≡ Some shape) (sym
            last) at in
            let ss : shape ≡ s = cc in (
              number,
              (
                subst (λ l. slice_get l place ≡ Some number) (sym is) (at_end all number place (last
                    ∙ sym done.is_count)),
                subst (λ q. IsMade now more q number) ss
                    (still_made now now all more shape number (keeps_same now) lengthens (omega arith) new),
              ),
            )
      ]
        where
          split : (p : ℕ) → p < count + 1 → (p < count) ⊎ (p ≡ count)
          split p less = elim (dec_lt p count) [ yes h ↦ inl h | no h ↦ inr (omega (arith, h, less)) ]

      stands : (types : ℕ → Term) (term : Term) → AreTold was found types → IsInstance rule types term →
          (place n : ℕ) → (slice_get all place ≡ Some n) ⊎ ((place ≡ length all) × (n ≡ number)) →
          Stands now n (types place)
      stands types term t i place n (inl w) = stands_in keeps n (types place) ((done.told types term t i).told place
          n w)
      stands types term t i place n (inr w) =
          let here : place ≡ count = w.0 ∙ done.is_count in
          subst (λ m. Stands now m (types place)) (sym w.1)
          (told types (types place) (done.told types term t i)
          (i.shaped place shape (subst (λ p. slice_get rule.shapes.items p ≡ Some shape) (sym here) at))
          (noted_stands noted is_noted))
        where
          noted_stands : (o : Option ℕ) → IfSome o (λ m. slice_get found (length all) ≡ Some (Some m)) →
              IfSome o (λ m. Stands made m (types place))
          noted_stands None h = h
          noted_stands (Some m) h =
              stands_in done.keeps m (types place) (t.told place m (subst (λ p. slice_get found p ≡ Some (Some m))
              (sym w.0) h))

-- all shapes have a type
pub all_made : (was made : List Made) (rule : Rule) (found : List (Option ℕ)) (count : ℕ) (all : List ℕ) →
    AreCompleted was made rule found count all → length rule.shapes.items ≤ count → AreMade made rule.shapes.items all
all_made was made rule found count all done past = record {
  each = λ place shape e. let w = slice_get_within rule.shapes.items place shape e in
      done.are_made.each place shape (within rule.shapes.items count place shape (omega (arith, w, past)) e);
}

-- the types of all shapes are those of an instance, and of each
module _ (was made : List Made) (rule : Rule) (subject : ℕ) (all : List ℕ) (term : Term) (first : ArePartsFirst made)
    (keeps : Keeps was made) (is_count : length all ≡ length rule.shapes.items) (are : AreMade made rule.shapes.items
    all)
    (stands : Stands was subject term) where
  -- the type of this number is there
  inside : (shape : Shape) (number : ℕ) → IsMade made all shape number → number < length made
  inside Parameter number is = is
  inside (Constructor c) number is = slice_get_within made number (MadeConstructor c) is
  inside (Applied f x) number is = slice_get_within made number (MadeApplied is.0 is.1.0) is.1.1.1.1

  record HasType (o : Option ℕ) : Type 0 where
    pub type_of : Term
    pub stands_for : (n : ℕ) → o ≡ Some n → Stands made n type_of

  type_for : (place : ℕ) (o : Option ℕ) → slice_get all place ≡ o → HasType o
  type_for place None e = record { type_of = constructor 0; stands_for = λ n is. absurd cc }
  type_for place (Some n) e =
      let here = slice_get_within all place n e in
      elim (slice_get_cases rule.shapes.items place).1 [
        | inl w ↦
            let m = are.each place w.0 w.2 in
            let same : Some m.0 ≡ Some n = sym m.1.0 ∙ e in
            let sn : m.0 ≡ n = cc in
            let t = has_term made first n (subst (λ k. k < length made) sn (inside w.0 m.0 m.1.1)) in
            record { type_of = t.0; stands_for = λ k is. let sk : n ≡ k = cc in subst (λ j. Stands made j t.0) sk t.1 }
        | inr w ↦ absurd (omega (arith, here, is_count, w.0))
      ]

  types : ℕ → Term
  types place = (type_for place (slice_get all place) refl).type_of

  are_told : AllTold made all types
  unfolding types
  are_told = record { told = λ place n e. (type_for place (slice_get all place) refl).stands_for n e }

  shaped : (place : ℕ) (shape : Shape) (number : ℕ) → slice_get all place ≡ Some number → IsMade made all shape number →
      IsShaped types shape (types place)
  shaped place Parameter number e is = tt
  shaped place (Constructor c) number e is = is_constructor made number c (types place) is (are_told.told place
      number e)
  shaped place (Applied f x) number e is =
      let p = parts_of made number is.0 is.1.0 (types place) is.1.1.1.1 (are_told.told place number e) in
      p.is ∙ ap₂ applied (one_term made is.0 p.first (types f) p.stands_first (are_told.told f is.0 is.1.1.0))
      (one_term made is.1.0 p.second (types x) p.stands_second (are_told.told x is.1.0 is.1.1.1.0))

  pub has_instance : slice_get all rule.head ≡ Some subject →
      ((others : ℕ → Term) → IsInstance rule others term → AllTold made all others) → HasInstance made rule term all
  has_instance at_head each = record {
    types = types;
    is_instance = record {
      shaped = λ place shape e. let m = are.each place shape e in shaped place shape m.0 m.1.0 m.1.1;
      is_head = one_term made subject (types rule.head) term (are_told.told rule.head subject at_head) (stands_in
          keeps subject term stands);
    };
    told = are_told;
    each = each;
  }

-- another type stands in the head
pub head_apart : (was made : List Made) (rule : Rule) (subject number : ℕ) (all : List ℕ) (term : Term) → IsOnce made →
    Keeps was made → Stands was subject term → slice_get all rule.head ≡ Some number → (number ≡ subject → ⊥) →
    ((others : ℕ → Term) → IsInstance rule others term → AllTold made all others) →
    (others : ℕ → Term) → IsInstance rule others term → ⊥
head_apart was made rule subject number all term once keeps stands at_head other each others is =
    other (one_number made once number subject term
    (subst (λ t. Stands made number t) is.is_head ((each others is).told rule.head number at_head)) (stands_in keeps
    subject term stands))
