-- A step of a frame takes it where the script does, and leaves fewer.
use Rattle.std.proofs.Common.{◌≡◌, ℕ, ◌<◌, List, [], ◌∷◌, length, refl, sym, ap, ap₂, subst, ◌∙◌, arith}
use Rattle.std.proofs.lemmas.Option.{slice_get_within}
use Rattle.question_lists.specs.Below.{Question, Reply, Begin, Answer, Noted, Outcome, IsFitting}
use Rattle.question_lists.specs.declared.needs.Needs.{Needs}
use Rattle.question_lists.specs.declared.frame.State.{State}
use Rattle.question_lists.specs.Frame.{with_reply, outcome_of, next_question, state_after, script_of, steps_left}
use Rattle.question_lists.specs.Told.{answers_question, next_question-is}

module _ {I : Type 0} (needs : Needs) (questions : List (Question I)) where
  -- an answer is to the question at the frame's place
  pub answer_within : (replies : List (Reply Outcome)) (r : Outcome)
      → IsFitting (script_of needs questions) (Answer r ∷ replies)
      → (state_after needs replies).place < length questions
  answer_within [] r h = absurd h.0
  answer_within (y ∷ earlier) r h =
      let s = state_after needs (y ∷ earlier) in
      let a = answers_question (λ _ _. Unit {0}) (outcome_of needs s)
      (next_question questions s.has_enough s.place) (Answer r) h.0 in
      slice_get_within questions s.place a.question
      (next_question-is questions s.has_enough s.place a.question a.is_asked).1

  never_noted : (replies : List (Reply Outcome)) → IsFitting (script_of needs questions) (Noted ∷ replies) → ⊥
  never_noted [] h = h.0
  never_noted (y ∷ earlier) h =
      let s = state_after needs (y ∷ earlier) in
      let a = answers_question (λ _ _. Unit {0}) (outcome_of needs s)
      (next_question questions s.has_enough s.place) Noted h.0 in
      let e = a.is_reply in absurd cc

  begins_once : (replies : List (Reply Outcome))
      → IsFitting (script_of needs questions) (Begin ∷ replies) → replies ≡ []
  begins_once [] h = refl
  begins_once (y ∷ earlier) h =
      let s = state_after needs (y ∷ earlier) in
      let a = answers_question (λ _ _. Unit {0}) (outcome_of needs s)
      (next_question questions s.has_enough s.place) Begin h.0 in
      let e = a.is_reply in absurd cc

  pub falls : (replies : List (Reply Outcome)) (x : Reply Outcome) →
      IsFitting (script_of needs questions) (x ∷ replies) →
      steps_left (length questions) (state_after needs (x ∷ replies))
      < steps_left (length questions) (state_after needs replies)
  falls [] Begin h = omega arith
  falls (y ∷ earlier) Begin h = let e = begins_once (y ∷ earlier) h in absurd cc
  falls replies (Answer r) h = let l = answer_within replies r h in omega arith
  falls replies Noted h = absurd (never_noted replies h)

-- the same, where the code has the goal's questions and the state under other terms
pub place_within : {I : Type 0} (needs : Needs) (questions same : List (Question I)) (replies : List (Reply Outcome))
    (reply : Reply Outcome) (r : Outcome) (s : State) (count : ℕ) →
    IsFitting (script_of needs questions) (reply ∷ replies) → s ≡ state_after needs replies → questions ≡ same →
    count ≡ length same → reply ≡ Answer r → s.place < count
place_within needs questions same replies reply r s count h is is_same counted is_answer =
    let l = answer_within needs questions replies r
    (subst (λ x. IsFitting (script_of needs questions) (x ∷ replies)) is_answer h) in
    let p : s.place ≡ (state_after needs replies).place = ap (λ t. t.place) is in
    let n : length questions ≡ length same = ap length is_same in
    omega (arith, l, p, n, counted)

pub falls_at : {I : Type 0} (needs other : Needs) (questions same : List (Question I)) (replies : List (Reply Outcome))
    (reply : Reply Outcome) (s t : State) →
    IsFitting (script_of needs questions) (reply ∷ replies) → s ≡ state_after needs replies → questions ≡ same →
    other ≡ needs → t ≡ with_reply other s reply →
    steps_left (length same) t < steps_left (length same) s
falls_at needs other questions same replies reply s t h is is_same is_other goes =
    let new : t ≡ state_after needs (reply ∷ replies) = goes ∙ ap₂ (λ n z. with_reply n z reply) is_other is in
    subst (λ qs. steps_left (length qs) t < steps_left (length qs) s) is_same
    (subst (λ z. steps_left (length questions) z < steps_left (length questions) s) (sym new)
    (subst (λ z. steps_left (length questions) (state_after needs (reply ∷ replies)) < steps_left (length questions) z)
    (sym is) (falls needs questions replies reply h)))
