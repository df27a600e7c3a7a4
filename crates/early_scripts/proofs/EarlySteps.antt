-- Each step of a frame leaves fewer, and a fresh frame has no more than any goal's frame may have.
use Rattle.std.proofs.Common.{◌≡◌, ℕ, ◌+◌, ◌<◌, ◌≤◌, List, [], ◌∷◌, length, drop, sum_by, slice_get, get_or, Some, ap}
use Rattle.std.proofs.Common.{sym, subst, ◌∙◌, arith}
use Rattle.std.proofs.lemmas.Option.{slice_get_within, get_or_from_slice_get}
use Rattle.std.proofs.lemmas.List.Sums.{sum_by-drop_more}
use Rattle.rule_tables.proofs.Steps.{sum_within}
use Rattle.early_scripts.specs.Below.{Reply, Begin, Answer, Noted, Outcome, Yes, No, Maybe, Overflow, IsFitting, Goal}
use Rattle.early_scripts.specs.Below.{Candidate, Rules, candidates_of}
use Rattle.early_scripts.specs.declared.early.State.{State}
use Rattle.early_scripts.specs.Early.{fresh, moved, with_reply, script_of, state_after, questions_in}
use Rattle.early_scripts.specs.Early.{steps_left, steps_within}
use Rattle.early_scripts.specs.EarlyLaws.{IsAnswerTo, is_answered, moves}

rest_of : (cs : List Candidate) (i : ℕ) (c : Candidate) → slice_get cs i ≡ Some c
    → sum_by questions_in (drop i cs) ≡ length c.questions + sum_by questions_in (drop (i + 1) cs)
rest_of cs i c e =
    let l = slice_get_within cs i c e in
    let at : get_or cs i c ≡ c = get_or_from_slice_get cs i c c e in
    sum_by-drop_more questions_in cs i c l ∙ ap (λ d. length d.questions + sum_by questions_in (drop (i + 1) cs)) at

module _ (cs : List Candidate) where
  moves_on : (s : State) (x : Reply Outcome) (at : IsAnswerTo cs s x) (r : Outcome)
      → steps_left cs (moved s r) < steps_left cs s
  moves_on s x at Yes = let h = rest_of cs s.candidate at.candidate at.is_at in
      let l = slice_get_within at.candidate.questions s.question at.asking at.is_asking in omega (arith, h, l)
  moves_on s x at No = let h = rest_of cs s.candidate at.candidate at.is_at in
      let l = slice_get_within at.candidate.questions s.question at.asking at.is_asking in omega (arith, h, l)
  moves_on s x at Maybe = let h = rest_of cs s.candidate at.candidate at.is_at in
      let l = slice_get_within at.candidate.questions s.question at.asking at.is_asking in omega (arith, h, l)
  moves_on s x at Overflow = let h = rest_of cs s.candidate at.candidate at.is_at in
      let l = slice_get_within at.candidate.questions s.question at.asking at.is_asking in omega (arith, h, l)

  falls : (replies : List (Reply Outcome)) (x : Reply Outcome) → IsFitting (script_of cs) (x ∷ replies)
      → steps_left cs (with_reply cs (state_after cs replies) x) < steps_left cs (state_after cs replies)
  falls [] Begin h = omega arith
  falls [] (Answer r) h = absurd h.0
  falls [] Noted h = absurd h.0
  falls (y ∷ earlier) x h =
      let s = state_after cs (y ∷ earlier) in
      let at = is_answered cs s x h.0 in
      subst (λ t. steps_left cs t < steps_left cs s) (sym (moves cs s x at)) (moves_on s x at at.outcome)

-- the same, where the code has the candidates and the state under other terms
pub falls_at : (cs xs ys : List Candidate) (s t : State) (replies : List (Reply Outcome)) (x : Reply Outcome) →
    xs ≡ cs → ys ≡ xs → s ≡ state_after cs replies → t ≡ with_reply ys s x → IsFitting (script_of cs) (x ∷ replies) →
    steps_left xs t < steps_left xs s
falls_at cs xs ys s t replies x same other stood is h = rw (is, other, same, stood) (falls cs replies x h)

-- no goal's frame has more
pub fresh_within : (rules : Rules) (goal : Goal) → steps_left (candidates_of rules goal) fresh ≤ steps_within rules
fresh_within rules goal = let h = sum_within questions_in rules goal in omega arith
