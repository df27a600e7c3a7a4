-- The map of a stack's inputs after one more input, and after one less.
use Rattle.std.proofs.Common.{◌≡◌, ℕ, ◌<◌, List, [], ◌∷◌, ◌++◌, length, get_or, Bool, true, false, cond, Option, Some}
use Rattle.std.proofs.Common.{None, refl, sym, ◌∙◌, arith, subst}
use Rattle.std.specs.List.{position, IsDistinct, list_any}
use Rattle.std.specs.Cmp.{IsEquivalence}
use Rattle.std.proofs.lemmas.Grind.{common_steps}
use Rattle.std.proofs.lemmas.Bool.Decides.{nat_tests}
use Rattle.std.proofs.lemmas.List.Folds.{position_or_len_push}
use Rattle.std.proofs.lemmas.List.Sums.{prefix_len-le-length}
use Rattle.std.proofs.lemmas.List.Quantifiers.{position-Some}
use Rattle.std.proofs.lemmas.Map.Keys.{IsDistinct-push, IsDistinct-from_apart, apart_from_distinct}
use Rattle.std.proofs.Math.ListN.{length-append}
use Rattle.goal_paths.specs.Words.{IsIndex}

-- the first place at which p passes, in a list with one more element
pub position_push_new : {X : Type 0} (p : X → Bool) (xs : List X) (y : X) → position p xs ≡ None → p y ≡ true
    → position p (xs ++ y ∷ []) ≡ Some (length xs)
position_push_new p xs y none passes =
    grind (arith, nat_tests, position_or_len_push, prefix_len-le-length, length-append)

pub position_push_old : {X : Type 0} (p : X → Bool) (xs : List X) (y : X) → p y ≡ false
    → position p (xs ++ y ∷ []) ≡ position p xs
position_push_old p xs y fails = grind (arith, nat_tests, position_or_len_push, prefix_len-le-length, length-append)

list_any-step : {X : Type 0} (p : X → Bool) (xs : List X) (x : X) → position p (x ∷ xs) ≡ None
    → (position p xs ≡ None → list_any p xs ≡ false) → list_any p (x ∷ xs) ≡ false
list_any-step p xs x none ih = grind (arith, nat_tests, prefix_len-le-length)

pub list_any_from_position : {X : Type 0} (p : X → Bool) (xs : List X) → position p xs ≡ None → list_any p xs ≡ false
list_any_from_position p [] none = refl
list_any_from_position p (x ∷ xs) none = list_any-step p xs x none (list_any_from_position p xs)

module _ {I : Type 0} (eq : I → I → Bool) (laws : IsEquivalence eq) (exact : (a b : I) → eq a b ≡ true → a ≡ b) where
  -- where an input stands, after one more that did not stand there
  agrees_push : (b : Bool) (depth depth' : I → Option ℕ) (ks : List I) (k q : I) → eq k q ≡ b
      → depth q ≡ position (eq q) ks → position (eq k) ks ≡ None → depth' q ≡ cond (eq k q) (Some (length ks)) (depth q)
      → depth' q ≡ position (eq q) (ks ++ k ∷ [])
  agrees_push true depth depth' ks k q is agrees new at =
      let same : k ≡ q = exact k q is in
      let absent : position (eq q) ks ≡ None = subst (λ (x : I). position (eq x) ks ≡ None) same new in
      let passes : eq q k ≡ true = subst (λ (x : I). eq q x ≡ true) (sym same) (laws.refl q) in
      at ∙ rw is (sym (position_push_new (eq q) ks k absent passes))
  agrees_push false depth depth' ks k q is agrees new at =
      let differs : eq q k ≡ false = laws.symm q k ∙ is in
      at ∙ rw is (agrees ∙ sym (position_push_old (eq q) ks k differs))

  pub IsIndex-push : (depth depth' : I → Option ℕ) (ks all : List I) (k : I) (n : ℕ) → IsIndex eq depth ks
      → position (eq k) ks ≡ None → n ≡ length ks → all ≡ ks ++ k ∷ []
      → ((q : I) → depth' q ≡ cond (eq k q) (Some n) (depth q)) → IsIndex eq depth' all
  IsIndex-push depth depth' ks all k n index new is_length is_all at = rw is_all (record {
    agrees = λ q. agrees_push (eq k q) depth depth' ks k q refl (index.agrees q) new
        (subst (λ (m : ℕ). depth' q ≡ cond (eq k q) (Some m) (depth q)) is_length (at q));
    distinct = IsDistinct-push laws ks k index.distinct (list_any_from_position (eq k) ks new);
  })

  -- the last input stands once
  pub position_none_from_distinct : (o : Option ℕ) (ks : List I) (k : I) → position (eq k) ks ≡ o
      → IsDistinct eq (ks ++ k ∷ []) → o ≡ None
  position_none_from_distinct None ks k is distinct = refl
  position_none_from_distinct (Some i) ks k is distinct =
      let found = position-Some (eq k) ks i k is in
      let bound : i < length ks = found.0 in
      let last : length ks < length (ks ++ k ∷ []) = simp length-append (omega arith) in
      let apart : eq (get_or (ks ++ k ∷ []) i k) (get_or (ks ++ k ∷ []) (length ks) k) ≡ false =
      apart_from_distinct eq (ks ++ k ∷ []) i (length ks) k distinct bound last in
      let flipped = laws.symm k (get_or ks i k) in
      absurd (grind (arith, common_steps))

  agrees_pop : (b : Bool) (depth depth' : I → Option ℕ) (ks : List I) (k q : I) → eq k q ≡ b
      → depth q ≡ position (eq q) (ks ++ k ∷ []) → position (eq k) ks ≡ None
      → depth' q ≡ cond (eq k q) None (depth q) → depth' q ≡ position (eq q) ks
  agrees_pop true depth depth' ks k q is agrees absent at =
      let same : k ≡ q = exact k q is in
      at ∙ rw is (sym (subst (λ (x : I). position (eq x) ks ≡ None) same absent))
  agrees_pop false depth depth' ks k q is agrees absent at =
      let differs : eq q k ≡ false = laws.symm q k ∙ is in
      at ∙ rw is (agrees ∙ position_push_old (eq q) ks k differs)

  IsDistinct-init : (ks : List I) (k : I) → IsDistinct eq (ks ++ k ∷ []) → IsDistinct eq ks
  IsDistinct-init ks k distinct = IsDistinct-from_apart eq ks (λ i j d before bound.
      let left : i < length ks = omega arith in
      let inside : j < length (ks ++ k ∷ []) = simp length-append (omega arith) in
      let apart : eq (get_or (ks ++ k ∷ []) i d) (get_or (ks ++ k ∷ []) j d) ≡ false =
      apart_from_distinct eq (ks ++ k ∷ []) i j d distinct before inside in
      grind (arith, common_steps))

  pub IsIndex-pop : (depth depth' : I → Option ℕ) (ks all : List I) (k : I) → IsIndex eq depth all → all ≡ ks ++ k ∷ []
      → ((q : I) → depth' q ≡ cond (eq k q) None (depth q)) → IsIndex eq depth' ks
  IsIndex-pop depth depth' ks all k was is_all at =
      let index = rw is_all at was in
      let absent = position_none_from_distinct _ ks k refl index.distinct in
      record {
        agrees = λ q. agrees_pop (eq k q) depth depth' ks k q refl (index.agrees q) absent (at q);
        distinct = IsDistinct-init ks k index.distinct;
      }

  pub IsIndex-empty : (depth : I → Option ℕ) → ((q : I) → depth q ≡ None) → IsIndex eq depth []
  unfolding IsDistinct
  IsIndex-empty depth none = record { agrees = none; distinct = tt }
