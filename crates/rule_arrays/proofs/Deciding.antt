-- Whether candidates are the same is decided.
use Rattle.std.proofs.Common.{◌≡◌, ◌⊎◌, ℕ, Bool, true, false, List, [], ◌∷◌, ap, ap₂, inl, inr, refl}
use Rattle.std.proofs.lemmas.Bool.{cases_eq}
use Rattle.rule_arrays.specs.Changes.{IsChanged}
use Rattle.rule_arrays.specs.Table.{Candidate, Table, candidates_of}
use Rattle.rule_arrays.specs.declared.rows.QuestionRow.{QuestionRow}

abbrev IsDecided : {A : Type 0} → A → A → Type 0
IsDecided x y = (x ≡ y) ⊎ (x ≡ y → ⊥)

lists_decided : {A : Type 0} → ((x y : A) → IsDecided x y) → (xs ys : List A) → IsDecided xs ys
lists_decided each [] [] = inl refl
lists_decided each [] (y ∷ ys) = inr (λ e. absurd cc)
lists_decided each (x ∷ xs) [] = inr (λ e. absurd cc)
lists_decided each (x ∷ xs) (y ∷ ys) = elim (each x y) [
  | inl first ↦ elim (lists_decided each xs ys) [
    | inl rest ↦ inl (ap₂ (λ z zs. z ∷ zs) first rest)
    | inr apart ↦ inr (λ e. apart cc)
  ]
  | inr apart ↦ inr (λ e. apart cc)
]

questions_decided : (x y : QuestionRow) → IsDecided x y
questions_decided x y = elim (cases_eq x.kind y.kind) [
  | inl kind ↦ elim (cases_eq x.goal y.goal) [
    | inl goal ↦ inl (ap₂ (λ k g. record { kind = k; goal = g }) kind goal)
    | inr apart ↦ inr (λ e. apart (ap (λ q. q.goal) e))
  ]
  | inr apart ↦ inr (λ e. apart (ap (λ q. q.kind) e))
]

marks_decided : (x y : Bool) → IsDecided x y
marks_decided true true = inl refl
marks_decided false false = inl refl
marks_decided true false = inr (λ e. absurd cc)
marks_decided false true = inr (λ e. absurd cc)

candidates_decided : (x y : Candidate) → IsDecided x y
candidates_decided x y = elim (marks_decided x.is_marked y.is_marked) [
  | inl mark ↦ elim (lists_decided questions_decided x.questions y.questions) [
    | inl asked ↦ inl (ap₂ (λ m qs. record { is_marked = m; questions = qs }) mark asked)
    | inr apart ↦ inr (λ e. apart (ap (λ c. c.questions) e))
  ]
  | inr apart ↦ inr (λ e. apart (ap (λ c. c.is_marked) e))
]

-- a goal has the candidates that it had, or changed
pub same_or_changed : (old new : Table) (goal : ℕ)
    → (candidates_of old goal ≡ candidates_of new goal) ⊎ IsChanged old new goal
same_or_changed old new goal = lists_decided candidates_decided (candidates_of old goal) (candidates_of new goal)
