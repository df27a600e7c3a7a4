-- The frames of goals that ask themselves: one question, and then the answer as the result.
use Rattle.std.specs.Prelude.{◌≡◌, ℕ, true, List, [], ◌∷◌, refl}
use Rattle.std.proofs.Common.{sym, ap, subst, arith}
use Rattle.test_delegates.specs.Below.{PathKind, Request, Evaluate, Done, Reply, Begin, Answer, Noted, EndsIn}
use Rattle.test_delegates.specs.Below.{progress_after, questions_answered, Outcome, Yes, No, Maybe, Overflow}
use Rattle.test_delegates.specs.Below.{is_yes, is_no}
use Rattle.test_delegates.specs.Requests.{done, none_after_done}
use Rattle.test_delegates.specs.declared.loops.Stage.{Stage}
use Rattle.test_delegates.specs.declared.loops.Stage.TheVariants.{New, Asked, Done as Over}
use Rattle.test_delegates.specs.declared.loops.Frame.{Frame}
use Rattle.test_delegates.specs.Loops.{HasItsQuestion}

abbrev pub answer_in : Reply Outcome → Outcome
answer_in (Answer r) = r
answer_in Begin = Maybe
answer_in Noted = Maybe

-- first the question, and then the answer as the result
abbrev pub loop_script : PathKind → List (Reply Outcome) → Request PathKind Outcome
loop_script goal [] = Done Maybe
loop_script goal (r ∷ []) = Evaluate goal goal
loop_script goal (r ∷ q ∷ earlier) = Done (answer_in r)

abbrev pub next_stage : Stage → Stage
next_stage New = Asked
next_stage Asked = Over
next_stage Over = Over

-- the request of a frame that is given the reply
abbrev pub request_at : PathKind → Stage → Reply Outcome → Request PathKind Outcome
request_at goal New r = Evaluate goal goal
request_at goal Asked r = Done (answer_in r)
request_at goal Over r = Done (answer_in r)

abbrev pub stage_after : List (Reply Outcome) → Stage
stage_after [] = New
stage_after (r ∷ []) = Asked
stage_after (r ∷ q ∷ earlier) = Over

abbrev pub steps_left : Stage → ℕ
steps_left New = 2
steps_left Asked = 1
steps_left Over = 0

pub record Stands (frame : Frame) (goal : PathKind) (replies : List (Reply Outcome)) : Type 0 where
  pub same_goal : frame.goal ≡ goal
  pub same_stage : frame.stage ≡ stage_after replies

-- a run ends with the answer to its only question
pub ends_by_answer : (goal : PathKind) (replies : List (Reply Outcome)) (r : Outcome)
    → EndsIn (loop_script goal) replies r → replies ≡ Answer r ∷ Begin ∷ []
ends_by_answer goal [] r h = let e = h.is_done in absurd cc
ends_by_answer goal (x ∷ []) r h = let e = h.is_done in absurd cc
ends_by_answer goal (Answer a ∷ Begin ∷ []) r h = let e : done PathKind a ≡ done PathKind r = h.is_done in
    let same : a ≡ r = cc in ap (λ v. Answer v ∷ Begin ∷ []) same
ends_by_answer goal (Answer a ∷ y ∷ []) r h = absurd h.is_fitting.1.0
ends_by_answer goal (x ∷ y ∷ []) r h = absurd h.is_fitting.0
ends_by_answer goal (x ∷ y ∷ z ∷ earlier) r h = absurd (none_after_done PathKind (answer_in y) x h.is_fitting.0)

yes_asks : (goal : PathKind) (r : Outcome) → is_yes r ≡ true
    → HasItsQuestion goal (questions_answered is_yes (progress_after (loop_script goal) (Answer r ∷ Begin ∷ [])))
yes_asks goal Yes is = (0, omega arith, refl)
yes_asks goal No is = absurd cc
yes_asks goal Maybe is = absurd cc
yes_asks goal Overflow is = absurd cc

no_asks : (goal : PathKind) (r : Outcome) → is_no r ≡ true
    → HasItsQuestion goal (questions_answered is_no (progress_after (loop_script goal) (Answer r ∷ Begin ∷ [])))
no_asks goal Yes is = absurd cc
no_asks goal No is = (0, omega arith, refl)
no_asks goal Maybe is = absurd cc
no_asks goal Overflow is = absurd cc

pub yes_is_proved : (goal : PathKind) (replies : List (Reply Outcome)) (r : Outcome)
    → EndsIn (loop_script goal) replies r → is_yes r ≡ true
    → HasItsQuestion goal (questions_answered is_yes (progress_after (loop_script goal) replies))
yes_is_proved goal replies r h is =
    subst (λ all. HasItsQuestion goal (questions_answered is_yes (progress_after (loop_script goal) all)))
    (sym (ends_by_answer goal replies r h)) (yes_asks goal r is)

pub no_is_refuted : (goal : PathKind) (replies : List (Reply Outcome)) (r : Outcome)
    → EndsIn (loop_script goal) replies r → is_no r ≡ true
    → HasItsQuestion goal (questions_answered is_no (progress_after (loop_script goal) replies))
no_is_refuted goal replies r h is =
    subst (λ all. HasItsQuestion goal (questions_answered is_no (progress_after (loop_script goal) all)))
    (sym (ends_by_answer goal replies r h)) (no_asks goal r is)
