-- What a rule asks, once the types of its shapes are known.
use Rattle.std.proofs.Common.{◌≡◌, ◌<◌, ◌+◌, ℕ, inl, inr, List, [], ◌∷◌, ◌++◌, length, Some}
use Rattle.std.proofs.Common.{refl, sym, ◌∙◌, ap, subst, arith}
use Rattle.std.specs.Prelude.{slice_get, Contains}
use Rattle.std.proofs.lemmas.Option.{slice_get_cases, slice_get_within}
use Rattle.candidate_lists.specs.Laws.Members.{Contains-from_slice_get, slice_get-from_Contains}
use Rattle.trait_rules.specs.Rules.{bound_of}
use Rattle.trait_rules.specs.Numbered.{Grows}
use Rattle.trait_rules.specs.declared.rules.Clause.{Clause}
use Rattle.trait_rules.proofs.Numbers.{in_longer, keeps_same, keeps_then}
use Rattle.trait_rules.proofs.Standing.{one_term}
use Rattle.trait_goals.specs.Below.{Keeps, Made, Rule, Term}
use Rattle.trait_goals.specs.Finding.{HasInstance}
use Rattle.trait_goals.specs.Known.{IsAsked, IsCandidate}
use Rattle.trait_goals.specs.Trying.{AreAsked, AreInside, AsksClause}
use Rattle.trait_goals.specs.declared.asked.Asked.{Asked}
use Rattle.trait_goals.proofs.Completing.{keeps_length}

pub inside_more : (was made : List Made) (asked : List Asked) → Keeps was made → AreInside was asked →
    AreInside made asked
inside_more was made asked keeps h = record {
  inside = λ n e at. let w = h.inside n e at in let l = keeps_length was made keeps in omega (arith, w, l);
}

pub inside_grown : (made : List Made) (asked now : List Asked) (key : Asked) → Grows asked now key →
    key.subject < length made →
    AreInside made asked → AreInside made now
inside_grown made asked now key grows less h = record {
  inside = λ n e at. elim (grows.old n e at) [
    | inl w ↦ h.inside n e w
    | inr w ↦ subst (λ (x : Asked). x.subject < length made) (sym w.1) less
  ];
}

pub length_more : {A : Type 0} (xs : List A) (x : A) → length (xs ++ x ∷ []) ≡ length xs + 1
length_more [] x = refl
length_more (y ∷ xs) x = let h = length_more xs x in omega (arith, h)

-- nothing is asked yet
pub none_asked : (all : List ℕ) (asked : List Asked) (rule : Rule) (bound : ℕ) →
    AreAsked all asked asked rule bound 0 []
none_asked all asked rule bound = record {
  keeps = keeps_same asked;
  is_count = refl;
  each = λ place number e. absurd cc;
}

still_asks : (all : List ℕ) (asked now : List Asked) (bound : ℕ) (clause : Clause) (number : ℕ) → Keeps asked now →
    AsksClause all asked bound clause number → AsksClause all now bound clause number
still_asks all asked now bound clause number keeps a = record {
  subject = a.subject;
  stands_there = a.stands_there;
  is_asked = keeps.at number (record { subject = a.subject; bound = bound_of bound clause.bound }) a.is_asked;
}

-- one more clause is asked
pub asked_more : (all : List ℕ) (was asked now : List Asked) (rule : Rule) (bound count : ℕ) (questions more : List ℕ)
    (clause : Clause) (subject number : ℕ) → AreAsked all was asked rule bound count questions →
    slice_get rule.clauses.items count ≡ Some clause → slice_get all clause.shape ≡ Some subject → Keeps asked now →
    slice_get now number ≡ Some (record { subject = subject; bound = bound_of bound clause.bound }) →
    more ≡ questions ++ number ∷ [] → AreAsked all was now rule bound (count + 1) more
asked_more all was asked now rule bound count questions more clause subject number a at there keeps is_asked is =
    record {
      keeps = keeps_then a.keeps keeps;
      is_count = ap length is ∙ (length_more questions number ∙ ap (λ n. n + 1) a.is_count);
      each = λ place n e. elim (in_longer questions number place n (subst (λ (l : List ℕ). slice_get l place ≡ Some
          n) is
          e)) [
            | inl w ↦ let old = a.each place n w in (
              old.0,
              (
                old.1.0,
                still_asks all asked now bound old.0 n keeps old.1.1,
              ),
            )
            | inr w ↦ (
              clause,
              (
                subst (λ p. slice_get rule.clauses.items p ≡ Some clause) (sym (w.0 ∙ a.is_count)) at,
                subst (λ m. AsksClause all now bound clause m) (sym w.1)
                    (record { subject = subject; stands_there = there; is_asked = is_asked }),
              ),
            )
          ];
    }

-- with all clauses asked there is a candidate
module _ (made : List Made) (was asked : List Asked) (rule : Rule) (bound : ℕ) (term : Term) (all questions : List ℕ)
    (h : HasInstance made rule term all) (a : AreAsked all was asked rule bound (length rule.clauses.items)
    questions) where
  is_asked : (clause : Clause) (number : ℕ) → AsksClause all asked bound clause number
      → IsAsked made asked number (h.types clause.shape) (bound_of bound clause.bound)
  is_asked clause number c = record {
    entry = record { subject = c.subject; bound = bound_of bound clause.bound };
    at = c.is_asked;
    stands = h.told.told clause.shape c.subject c.stands_there;
    same_bound = refl;
  }

  record AskedAt (clause : Clause) : Type 0 where
    pub place : ℕ
    pub number : ℕ
    pub at : slice_get questions place ≡ Some number
    pub asks : AsksClause all asked bound clause number

  asked_at : (clause : Clause) → Contains rule.clauses.items clause → AskedAt clause
  asked_at clause has =
      let there = slice_get-from_Contains rule.clauses.items clause has in
      let within = slice_get_within rule.clauses.items has.0 clause there in
      elim (slice_get_cases questions has.0).1 [
        | inl w ↦
            let c = a.each has.0 w.0 w.2 in
            let same : Some c.0 ≡ Some clause = sym c.1.0 ∙ there in
            let sc : c.0 ≡ clause = cc in
            record {
              place = has.0;
              number = w.0;
              at = w.2;
              asks = subst (λ k. AsksClause all asked bound k w.0) sc
                  c.1.1;
            }
        | inr w ↦ absurd (omega (arith, within, w.0, a.is_count))
      ]

  pub candidate_by : IsCandidate made asked rule bound term questions
  candidate_by = record {
    types = h.types;
    is_instance = h.is_instance;
    one_instance = λ others is clause has. let w = asked_at clause has in
        one_term made w.asks.subject (others clause.shape) (h.types clause.shape)
        ((h.each others is).told clause.shape w.asks.subject w.asks.stands_there)
        (h.told.told clause.shape w.asks.subject w.asks.stands_there);
    each = λ clause has. let w = asked_at clause has in record {
      number = w.number;
      is_question = Contains-from_slice_get questions w.place w.number w.at;
      is_asked = is_asked clause w.number w.asks;
    };
    only = λ number has. let c = a.each has.0 number (slice_get-from_Contains questions number has) in record {
      clause = c.0;
      is_clause = Contains-from_slice_get rule.clauses.items has.0 c.0 c.1.0;
      is_asked = is_asked c.0 number c.1.1;
    };
  }
