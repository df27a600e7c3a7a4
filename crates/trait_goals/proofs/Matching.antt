-- What a match of a rule's shapes with a type tells.
use Rattle.std.proofs.Common.{◌≡◌, ℕ, zero, suc, ◌⊎◌, inl, inr, Bool, true, false, List, [], ◌∷◌}
use Rattle.std.proofs.Common.{Option, Some, None}
use Rattle.std.proofs.Common.{refl, sym, ◌∙◌, ap, subst, arith}
use Rattle.std.proofs.Math.ListN.{set}
use Rattle.std.specs.Prelude.{slice_get}
use Rattle.std.specs.Option.{IfSome}
use Rattle.trait_rules.specs.Terms.{applied, applied_at, constructor, constructor_at}
use Rattle.trait_rules.specs.declared.made.Made.TheVariants.{Applied as MadeApplied, Constructor as MadeConstructor}
use Rattle.trait_rules.specs.declared.rules.Shape.TheVariants.{Constructor, Applied}
use Rattle.trait_rules.proofs.Standing.{one_number, one_term, stands_in}
use Rattle.trait_goals.specs.Below.{IsInstance, IsOnce, IsShaped, Keeps, Made, Rule, Shape, Stands, Term}
use Rattle.trait_goals.specs.Instances.{AllTold, AreTold}

-- what stands in a list with one place written
pub in_set : {A : Type 0} (xs : List A) (i n : ℕ) (v x : A) → slice_get (set xs i v) n ≡ Some x
    → (slice_get xs n ≡ Some x) ⊎ ((n ≡ i) × (x ≡ v))
in_set [] i n v x e = inl e
in_set (y ∷ xs) zero zero v x e = inr (refl, cc)
in_set (y ∷ xs) zero (suc n) v x e = inl e
in_set (y ∷ xs) (suc i) zero v x e = inl e
in_set (y ∷ xs) (suc i) (suc n) v x e =
    elim (in_set xs i n v x e) [ inl w ↦ inl w | inr w ↦ inr (omega (arith, w.0), w.1) ]

module _ (made : List Made) where
  -- a type that is made by a constructor alone
  pub is_constructor : (number c : ℕ) (t : Term) → slice_get made number ≡ Some (MadeConstructor c) →
      Stands made number t
      → t ≡ constructor c
  is_constructor number c t e s = one_term made number t (constructor c) s (constructor_at e)

  -- the parts of one with an argument
  pub record HasParts (g y : ℕ) (t : Term) : Type 0 where
    pub first : Term
    pub second : Term
    pub is : t ≡ applied first second
    pub stands_first : Stands made g first
    pub stands_second : Stands made y second

  pub parts_of : (number g y : ℕ) (t : Term) → slice_get made number ≡ Some (MadeApplied g y) → Stands made number t
      → HasParts g y t
  parts_of number g y (constructor c) e (constructor_at i) =
      let no : Some (MadeConstructor c) ≡ Some (MadeApplied g y) = sym i ∙ e in absurd cc
  parts_of number g y (applied a b) e (applied_at {f = f} {x = x} i j k) =
      let same : Some (MadeApplied f x) ≡ Some (MadeApplied g y) = sym i ∙ e in
      let sf : f ≡ g = cc in let sx : x ≡ y = cc in
      record {
        first = a;
        second = b;
        is = refl;
        stands_first = subst (λ n. Stands made n a) sf j;
        stands_second = subst (λ n. Stands made n b) sx k;
      }

  module _ (types : ℕ → Term) where
    pub note_same : (found : List (Option ℕ)) (place number other : ℕ) → IsOnce made → AreTold made found types →
        Stands made number (types place) → slice_get found place ≡ Some (Some other) → other ≡ number
    note_same found place number other once told s e =
        one_number made once other number (types place) (told.told place other e) s

    pub note_new : (found : List (Option ℕ)) (place number : ℕ) → AreTold made found types →
        Stands made number (types place) → AreTold made (set found place (Some number)) types
    note_new found place number told s = record {
      told = λ p n e. elim (in_set found place p (Some number) (Some n) e) [
        | inl w ↦ told.told p n w
        | inr w ↦ let same : Some n ≡ Some number = w.1 in let sn : number ≡ n = cc in
            subst (λ q. Stands made n (types q)) (sym w.0) (subst (λ m. Stands made m (types place)) sn s)
      ];
    }

    -- the types of the parts of a shape
    pub shaped_parts : (f x g y number : ℕ) (t : Term) → slice_get made number ≡ Some (MadeApplied g y) →
        Stands made number t →
        IsShaped types (Applied f x) t → Stands made g (types f) × Stands made y (types x)
    shaped_parts f x g y number t e s is =
        let p = parts_of number g y t e s in
        let both : applied p.first p.second ≡ applied (types f) (types x) = sym p.is ∙ is in
        let a : p.first ≡ types f = cc in let b : p.second ≡ types x = cc in
        (subst (λ u. Stands made g u) a p.stands_first, subst (λ u. Stands made y u) b p.stands_second)

    pub shaped_constructor : (c d number : ℕ) (t : Term) → slice_get made number ≡ Some (MadeConstructor d) →
        Stands made number t →
        IsShaped types (Constructor c) t → c ≡ d
    shaped_constructor c d number t e s is =
        let same : constructor d ≡ constructor c = sym (is_constructor number d t e s) ∙ is in cc

    pub not_constructor : (c g y number : ℕ) (t : Term) → slice_get made number ≡ Some (MadeApplied g y) →
        Stands made number t →
        IsShaped types (Constructor c) t → ⊥
    not_constructor c g y number t e s is = let p = parts_of number g y t e s in
        let same : applied p.first p.second ≡ constructor c = sym p.is ∙ is in cc

    pub not_applied : (f x d number : ℕ) (t : Term) → slice_get made number ≡ Some (MadeConstructor d) →
        Stands made number t →
        IsShaped types (Applied f x) t → ⊥
    not_applied f x d number t e s is =
        let same : constructor d ≡ applied (types f) (types x) = sym (is_constructor number d t e s) ∙ is in cc

    pub is_there : (number : ℕ) (t : Term) → slice_get made number ≡ None → Stands made number t → ⊥
    is_there number (constructor c) e (constructor_at i) = cc
    is_there number (applied a b) e (applied_at i j k) = cc

-- nothing but the head's type is known
pub head_told : (made : List Made) (rule : Rule) (subject : ℕ) (found : List (Option ℕ)) →
    ((place number : ℕ) → slice_get found place ≡ Some (Some number) → (place ≡ rule.head) × (number ≡ subject)) →
    (types : ℕ → Term) (term : Term) → Stands made subject term → IsInstance rule types term → AreTold made found types
head_told made rule subject found only types term stands is = record {
  told = λ place number e. let o = only place number e in
      subst (λ p. Stands made number (types p)) (sym o.0)
      (subst (λ n. Stands made n (types rule.head)) (sym o.1) (subst (λ t. Stands made subject t) (sym is.is_head)
      stands));
}

-- what is said of the head's shape is said of the rule's type
pub head_shaped : (rule : Rule) (types : ℕ → Term) (term : Term) (shape : Shape) → IsInstance rule types term →
    slice_get rule.shapes.items rule.head ≡ Some shape → IsShaped types shape term
head_shaped rule types term shape is e = subst (λ t. IsShaped types shape t) is.is_head (is.shaped rule.head shape e)

-- nothing is known
pub nothing_told : (made : List Made) (found : List (Option ℕ)) (types : ℕ → Term) → found ≡ [] →
    AreTold made found types
nothing_told made found types none = record {
  told = λ place number e.
      let there : slice_get [] place ≡ Some (Some number) =
      subst (λ (l : List (Option ℕ)). slice_get l place ≡ Some (Some number)) none e in absurd cc;
}

pub is_apart : (b : Bool) → b ≡ true → b ≡ false → ⊥
is_apart b t f = cc

-- the number of a constructor's type stands for it
pub new_constructor : (made : List Made) (types : ℕ → Term) (c number : ℕ) (term : Term) →
    slice_get made number ≡ Some (MadeConstructor c) → IsShaped types (Constructor c) term → Stands made number term
new_constructor made types c number term e is = subst (λ t. Stands made number t) (sym is) (constructor_at e)

-- the number of a type with one argument more stands for it
pub new_applied : (was made : List Made) (all : List ℕ) (first second g y : ℕ) (shape : Shape) (noted found : Option
    ℕ) →
    shape ≡ Applied first second → slice_get all first ≡ Some g → slice_get all second ≡ Some y → Keeps was made →
    IfSome found (λ number. slice_get made number ≡ Some (MadeApplied g y)) →
    IfSome found (λ number. (types : ℕ → Term) (term : Term) → AllTold was all types → IsShaped types shape term →
    IfSome noted (λ n. Stands was n term) → Stands made number term)
new_applied was made all first second g y shape noted None is at_first at_second keeps made_so = made_so
new_applied was made all first second g y shape noted (Some number) is at_first at_second keeps made_so =
    λ types term told shaped unused.
    let so : term ≡ applied (types first) (types second) = subst (λ s. IsShaped types s term) is shaped in
    subst (λ t. Stands made number t) (sym so)
    (applied_at made_so (stands_in keeps g (types first) (told.told first g at_first)) (stands_in keeps y (types
    second) (told.told second y at_second)))

-- what was read of a list of found types
pub read_found : (xs ys : List (Option ℕ)) (place number : ℕ) (o : Option ℕ) → ys ≡ xs → Some o ≡ slice_get ys place →
    o ≡ Some number → slice_get xs place ≡ Some (Some number)
read_found xs ys place number o same is some =
    subst (λ l. slice_get l place ≡ Some (Some number)) same (sym is ∙ ap Some some)

pub some_so : {A : Type 0} (P : A → Type 0) (o : Option A) (x : A) → o ≡ Some x → IfSome o P → P x
some_so P o x is h = let s : IfSome (Some x) P = subst (λ p. IfSome p P) is h in s

pub read_at : {A : Type 0} (xs ys : List A) (place : ℕ) (x : A) → ys ≡ xs → Some x ≡ slice_get ys place →
    slice_get xs place ≡ Some x
read_at {A} xs ys place x same is = subst (λ (l : List A). slice_get l place ≡ Some x) same (sym is)
