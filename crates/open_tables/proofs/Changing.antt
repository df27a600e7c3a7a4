-- What changes make of a table.
use Rattle.std.proofs.Common.{◌≡◌, ◌∙◌, ◌⊎◌, ℕ, true, false, cond, List, [], ◌∷◌, ◌++◌, Some, ap, inl, inr, refl}
use Rattle.std.proofs.Common.{slice_get, subst, sym}
use Rattle.std.specs.List.{AllZip}
use Rattle.std.specs.Str.{bytes_eq}
use Rattle.std.proofs.lemmas.Bool.{cases_Bool, false≢true}
use Rattle.std.proofs.lemmas.List.Sums.{fold-append}
use Rattle.std.proofs.lemmas.Slice.Eq.{bytes_eq-Decides}
use Rattle.rule_tables.specs.Candidate.{Candidate}
use Rattle.rule_tables.specs.Grammar.{NamedQuestion}
use Rattle.rule_tables.specs.Rules.{number_of}
use Rattle.rule_tables.specs.Table.{IsCandidate, NamedCandidate}
use Rattle.rule_tables.specs.declared.rules.Goal.{Goal}
use Rattle.rule_tables.proofs.Questions.{AllZip-append_one}
use Rattle.open_tables.specs.Changes.{Add, Change, Clear, HasChange, IsOpenTableOf, candidates_after, candidates_with}
use Rattle.open_tables.specs.Kept.{AddsCandidate, ClearsCandidates}
use Rattle.open_tables.specs.Table.{Table, candidates_of, name_of, names_of}

-- one more change comes last
after_more : (changes : List Change) (change : Change) (name : List ℕ)
    → candidates_after (changes ++ change ∷ []) name ≡ candidates_with name (candidates_after changes name) change
after_more changes change name = fold-append (candidates_with name) [] changes (change ∷ [])

-- two names are one, or differ
names_are : (head name : List ℕ) → (head ≡ name) ⊎ (bytes_eq head name ≡ false)
names_are head name = elim (cases_Bool (bytes_eq head name)) [
  | inl is ↦ inl ((bytes_eq-Decides head name).0 is)
  | inr apart ↦ inr apart
]

own_name : (name : List ℕ) → bytes_eq name name ≡ true
own_name name = (bytes_eq-Decides name name).1 refl

module _ (old new : Table) (goal : Goal) (head : List ℕ) (is_named : name_of old goal ≡ Some head)
    (names : new.names ≡ old.names) (changes : List Change) (made : IsOpenTableOf changes old) where
  named_there : (other : Goal) (name : List ℕ) → name_of new other ≡ Some name → name_of old other ≡ Some name
  named_there other name is = ap (λ l. slice_get l (number_of other)) (sym names) ∙ is

  named_here : (other : Goal) (name : List ℕ) → name_of old other ≡ Some name → name_of new other ≡ Some name
  named_here other name is = ap (λ l. slice_get l (number_of other)) names ∙ is

  -- a goal of another name is another goal
  apart_by : (other : Goal) (name : List ℕ) → name_of old other ≡ Some name → bytes_eq head name ≡ false
      → other ≡ goal → ⊥
  apart_by other name is differs same =
      let two : Some head ≡ Some name = sym is_named ∙ ap (name_of old) (sym same) ∙ is in
      let one : head ≡ name = cc in
      absurd (false≢true (sym differs ∙ subst (λ n. bytes_eq head n ≡ true) one (own_name head)))

  -- one change, of the candidates of this name
  module _ (change : Change) (written : List NamedCandidate)
      (here : (name : List ℕ) → head ≡ name → candidates_with name (candidates_after changes name) change ≡ written)
      (elsewhere : (name : List ℕ) → bytes_eq head name ≡ false
      → candidates_with name (candidates_after changes name) change ≡ candidates_after changes name)
      (has : AllZip (IsCandidate (names_of new)) (candidates_of new goal) written)
      (others : (other : Goal) → (other ≡ goal → ⊥) → candidates_of new other ≡ candidates_of old other) where
    known_still : (name : List ℕ)
        → (candidates_after (changes ++ change ∷ []) name ≡ []) ⊎ ((other : Goal) × (name_of new other ≡ Some name))
    known_still name = elim (names_are head name) [
      | inl is ↦ inr (goal, named_here goal name (is_named ∙ ap Some is))
      | inr differs ↦ elim (made.known name) [
        | inl none ↦ inl (after_more changes change name ∙ elsewhere name differs ∙ none)
        | inr it ↦ inr (it.0, named_here it.0 name it.1)
      ]
    ]

    candidates_still : (other : Goal) (name : List ℕ) → name_of old other ≡ Some name
        → (head ≡ name) ⊎ (bytes_eq head name ≡ false)
        → AllZip (IsCandidate (names_of new)) (candidates_of new other)
        (candidates_with name (candidates_after changes name) change)
    candidates_still other name is (inl same) =
        let other_is : other ≡ goal = made.once other goal name is (is_named ∙ ap Some same) in
        subst (λ g. AllZip (IsCandidate (names_of new)) (candidates_of new g)
        (candidates_with name (candidates_after changes name) change)) (sym other_is)
        (subst (AllZip (IsCandidate (names_of new)) (candidates_of new goal)) (sym (here name same)) has)
    candidates_still other name is (inr differs) =
        subst (λ cs. AllZip (IsCandidate (names_of new)) cs
        (candidates_with name (candidates_after changes name) change))
        (sym (others other (apart_by other name is differs)))
        (subst (AllZip (IsCandidate (names_of new)) (candidates_of old other)) (sym (elsewhere name differs))
        (subst (λ l. AllZip (IsCandidate l) (candidates_of old other) (candidates_after changes name)) (sym names)
        (made.candidates other name is)))

    pub one_more_change : IsOpenTableOf (changes ++ change ∷ []) new
    one_more_change = record {
      once = λ other another name is too.
          made.once other another name (named_there other name is) (named_there another name too);
      known = known_still;
      candidates = λ other name is.
          subst (AllZip (IsCandidate (names_of new)) (candidates_of new other)) (sym (after_more changes change name))
          (candidates_still other name (named_there other name is) (names_are head name));
    }

pub rule_added : (old new : Table) (goal : Goal) (c : Candidate) (head : List ℕ) (questions : List NamedQuestion)
    → AddsCandidate goal c old new
    → IsCandidate (names_of old) c (record { is_marked = c.is_marked; questions = questions })
    → name_of old goal ≡ Some head → HasChange (Add c.is_marked head questions) old new
rule_added old new goal c head questions adds is_candidate is_named changes made =
    let written : NamedCandidate = record { is_marked = c.is_marked; questions = questions } in
    one_more_change old new goal head is_named adds.names changes made (Add c.is_marked head questions)
    (candidates_after changes head ++ written ∷ [])
    (λ name is. subst (λ n. candidates_with n (candidates_after changes n) (Add c.is_marked head questions)
    ≡ candidates_after changes head ++ written ∷ []) is
    (ap (λ b. cond b (candidates_after changes head ++ written ∷ []) (candidates_after changes head)) (own_name head)))
    (λ name differs. ap (λ b. cond b (candidates_after changes name ++ written ∷ []) (candidates_after changes name))
    differs)
    (subst (λ l. AllZip (IsCandidate l) (candidates_of new goal) (candidates_after changes head ++ written ∷ []))
    (sym adds.names)
    (subst (λ cs. AllZip (IsCandidate (names_of old)) cs (candidates_after changes head ++ written ∷ []))
    (sym adds.here)
    (AllZip-append_one (IsCandidate (names_of old)) (candidates_of old goal) (candidates_after changes head) c written
    (made.candidates goal head is_named) is_candidate)))
    adds.others

pub rules_cleared : (old new : Table) (goal : Goal) (head : List ℕ) → ClearsCandidates goal old new
    → name_of old goal ≡ Some head → HasChange (Clear head) old new
rules_cleared old new goal head clears is_named changes made =
    one_more_change old new goal head is_named clears.names changes made (Clear head) []
    (λ name is. subst (λ n. candidates_with n (candidates_after changes n) (Clear head) ≡ []) is
    (ap (λ b. cond b [] (candidates_after changes head)) (own_name head)))
    (λ name differs. ap (λ b. cond b [] (candidates_after changes name)) differs)
    (subst (λ cs. AllZip (IsCandidate (names_of new)) cs []) (sym clears.here) tt)
    clears.others
