-- Members of a list of numbers by their index, and a list whose last number was popped.
use Rattle.std.proofs.Common.{◌≡◌, ℕ, ◌<◌, ◌≤◌, ◌+◌, ◌-◌, List, length, slice_index, take, arith, ap, sym, ◌∙◌, inl}
use Rattle.std.proofs.Common.{inr, subst}
use Rattle.std.specs.List.{Contains}
use Rattle.std.proofs.lemmas.Bool.{cases_eq}
use Rattle.std.proofs.lemmas.List.{get_or_default, get_or-take, length-take-le}
use Rattle.strong_components.specs.Words.{HasLast, IsIncreasing}

pub at_index : (xs : List ℕ) (x : ℕ) → Contains xs x → (k : ℕ) × (k < length xs) × (slice_index xs k ≡ x)
at_index xs x (k, inside, is) = (k, inside, get_or_default xs k 0 x inside ∙ is)

pub contains_at : (xs : List ℕ) (x k : ℕ) → k < length xs → slice_index xs k ≡ x → Contains xs x
contains_at xs x k inside is = (k, inside, get_or_default xs k x 0 inside ∙ is)

-- a member of a rising list is at most its last number
pub rising_last : (xs : List ℕ) (last x : ℕ) → IsIncreasing xs → HasLast xs last → Contains xs x → x ≤ last
rising_last xs last x rises ends member =
    let (k, inside, is) = at_index xs x member in
    elim (cases_eq k (length xs - 1)) [
      | inl e ↦ let same = subst (λ (n : ℕ). slice_index xs n ≡ x) e is in let end = ends.1 in omega arith
      | inr ne ↦ let below = rises k (length xs - 1) (omega arith) (omega arith) in let end = ends.1 in omega arith
    ]

-- the list without its last number
pub record IsFront (xs front : List ℕ) : Type 0 where
  pub shorter : length front + 1 ≡ length xs
  pub kept : (k : ℕ) → k < length front → slice_index front k ≡ slice_index xs k

-- a member other than the last number of the list is in its front
pub front-contains : (xs front : List ℕ) (last x : ℕ) → IsFront xs front → HasLast xs last
    → Contains xs x → (x ≡ last → ⊥) → Contains front x
front-contains xs front last x pops ends member other =
    let (k, inside, is) = at_index xs x member in
    elim (cases_eq k (length front)) [
      | inl e ↦
          let at_end : k ≡ length xs - 1 = let s = pops.shorter in omega arith in
          let same = subst (λ (n : ℕ). slice_index xs n ≡ x) at_end is in
          absurd (other (sym same ∙ ends.1))
      | inr ne ↦
          let before : k < length front = let s = pops.shorter in omega arith in
          contains_at front x k before (pops.kept k before ∙ is)
    ]

-- the numbers of the front of a rising list are below its last one
pub front-below : (xs front : List ℕ) (last k : ℕ) → IsIncreasing xs → IsFront xs front → HasLast xs last
    → k < length front → slice_index front k < last
front-below xs front last k rises pops ends inside =
    let s = pops.shorter in let same = pops.kept k inside in
    let below = rises k (length xs - 1) (omega arith) (omega arith) in let end = ends.1 in omega arith

pub front-rises : (xs front : List ℕ) → IsIncreasing xs → IsFront xs front → IsIncreasing front
front-rises xs front rises pops j k lt inside =
    let s = pops.shorter in let at_j = pops.kept j (omega arith) in let at_k = pops.kept k inside in
    let below = rises j k lt (omega arith) in omega arith

-- what a pop leaves
pub IsFront-pop : (xs front : List ℕ) (n : ℕ) → n ≡ length xs → 0 < n → front ≡ take (n - 1) xs → IsFront xs front
IsFront-pop xs front n long some is =
    let short = length-take-le (n - 1) xs (omega arith) in let same = ap (length {A = ℕ}) is in
    record {
      shorter = omega arith;
      kept = λ k inside. ap (λ ys. slice_index ys k) is ∙ get_or-take (n - 1) xs k 0 (omega arith);
    }
