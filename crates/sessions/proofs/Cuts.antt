-- The question at which a goal was cut off, among those of its candidates.
use Rattle.std.proofs.Common.{◌≡◌, ◌+◌, ◌<◌, ◌≤◌, ℕ, List, None, Option, Some, ap, arith, inl, inr, refl}
use Rattle.std.proofs.Common.{subst, sym, true}
use Rattle.std.proofs.lemmas.Bool.{cases_lt}
use Rattle.std.proofs.lemmas.Option.{slice_get_cases, slice_get_past}
use Rattle.std.specs.Option.{unwrap_or}
use Rattle.std.specs.Prelude.{slice_get}
use Rattle.candidate_lists.specs.Candidate.{Candidate, mark_of, question_at, question_in, step_of}
use Rattle.path_kinds.specs.contracts.path.PathKindPartialEq.TheImpl.{eq-value as eq-kind}
use Rattle.path_kinds.specs.declared.path.PathKind.{PathKind}
use Rattle.path_kinds.specs.declared.path.PathKind.TheVariants.{Coinductive, ForcedAmbiguity, Inductive, Unknown}
use Rattle.sessions.specs.Below.{Question}

-- what holds of none of the first so many, nor of the next one
pub none_more : (P : ℕ → Type 0) (n : ℕ) → ((k : ℕ) → k < n → P k → ⊥) → (P n → ⊥) → (k : ℕ) → k < n + 1 → P k → ⊥
none_more P n before here k below it = elim (cases_lt k n) [
  | inl less ↦ before k less it
  | inr more ↦ let same : k ≡ n = omega arith in here (subst P same it)
]

pub kind_exact : (x y : PathKind) → eq-kind.it x y ≡ true → x ≡ y
kind_exact Inductive Inductive h = refl
kind_exact Unknown Unknown h = refl
kind_exact Coinductive Coinductive h = refl
kind_exact ForcedAmbiguity ForcedAmbiguity h = refl
kind_exact _ _ h = absurd cc

pub kind_same : (x : PathKind) → eq-kind.it x x ≡ true
kind_same Inductive = refl
kind_same Unknown = refl
kind_same Coinductive = refl
kind_same ForcedAmbiguity = refl

-- a list that ends before a place has nothing further on
past_end : {A : Type 0} (xs : List A) (n k : ℕ) → slice_get xs n ≡ None → n ≤ k → slice_get xs k ≡ None
past_end xs n k none more = elim (slice_get_cases xs n).1 [
  | inl there ↦ absurd (let some = there.2 in cc)
  | inr past ↦ let far = past.0 in slice_get_past xs k (omega arith)
]

module _ {Q I : Type 0} (ask : Q → Question I) where
  no_candidate : (o : Option (Candidate Q)) → mark_of o ≡ None → o ≡ None
  no_candidate None none = refl
  no_candidate (Some c) none = absurd cc

  no_step : (o : Option Q) → step_of ask o ≡ None → o ≡ None
  no_step None none = refl
  no_step (Some q) none = absurd cc

  no_question : (o : Option (Candidate Q)) (n k : ℕ) → question_in ask o n ≡ None → n ≤ k → question_in ask o k ≡ None
  no_question None n k none more = refl
  no_question (Some c) n k none more =
      ap (step_of ask) (past_end c.questions n k (no_step (slice_get c.questions n) none) more)

  -- where a candidate has no question at a place, it has none further on
  pub no_question_from : (cs : List (Candidate Q)) (candidate n k : ℕ) → question_at ask cs candidate n ≡ None → n ≤ k
      → question_at ask cs candidate k ≡ None
  no_question_from cs candidate n k = no_question (slice_get cs candidate) n k

  -- where there is no candidate at a place, there are no questions of those further on
  pub no_candidate_from : (cs : List (Candidate Q)) (n k place : ℕ) → mark_of (slice_get cs n) ≡ None → n ≤ k
      → question_at ask cs k place ≡ None
  no_candidate_from cs n k place none more =
      ap (λ o. question_in ask o place) (past_end cs n k (no_candidate (slice_get cs n) none) more)

-- a question that is this one is so by its parts
pub same_parts : {K I : Type 0} (k l : K) (i j : I) → ◌≡◌ {A = Option (K × I)} (Some (k, i)) (Some (l, j))
    → (k ≡ l) × (i ≡ j)
same_parts {K} {I} k l i j same =
    let pair : ◌≡◌ {A = K × I} (k, i) (l, j) = ap (λ (o : Option (K × I)). unwrap_or o (k, i)) same in
    (ap (λ (p : K × I). p.0) pair, ap (λ (p : K × I). p.1) pair)

pub same_question : {K I : Type 0} (k l : K) (i j : I) (o : Option (K × I)) → ◌≡◌ {A = Option (K × I)} (Some (k, i)) o
    → k ≡ l → i ≡ j → o ≡ Some (l, j)
same_question k l i j o is kind goal = cc

pub none_some : {A : Type 0} (o : Option A) (x : A) → o ≡ None → o ≡ Some x → ⊥
none_some o x none some = absurd cc
