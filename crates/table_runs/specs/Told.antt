-- What a question came to, and the line of one that was asked of rules.
use Rattle.std.specs.Prelude.{◌≡◌, ◌≢◌, ◌↔◌, ℕ, All, Bool, true, false, List, [], Result, Ok, Err, IfOk}
use Rattle.std.specs.Option.{unwrap_or}
use Rattle.line_texts.specs.Questions as asked
use Rattle.answer_lines.specs.Goals.{line_told}
use Rattle.answer_lines.specs.declared.goals.Told.{Told}
use Rattle.answer_lines.specs.declared.goals.Check.{Check}
use Rattle.answer_lines.specs.declared.goals.Check.TheVariants.{None, Accepted, Refused}
use Rattle.table_runs.specs.Below.{CxOf, Fault, Outcome, IsDefinite, Verdicts, Goal, Rules, name_of}
use Rattle.table_runs.specs.Right.{IsRightOutcome, SomeGraphShows}
use Rattle.table_runs.specs.declared.program.questions.Checks.{Checks}
use Rattle.table_runs.specs.declared.program.questions.Checks.TheVariants.{EachGraph}

-- a question, by its depth and its goal, and what it came to
abbrev pub AnsweredQuestion : Type 0
AnsweredQuestion = asked.AnsweredQuestion (ℕ × Goal) (Result Told (Fault Goal Outcome))

abbrev is_accepted : Check → Bool
is_accepted None = true
is_accepted Accepted = true
is_accepted Refused = false

-- no fault was met, and no graph refused
abbrev pub is_fine : Result Told (Fault Goal Outcome) → Bool
is_fine (Ok told) = is_accepted told.check
is_fine (Err fault) = false

-- Where graphs are checked, each yes and no is told as accepted, and nothing else is; none is told as refused.
pub record IsChecked (says : Verdicts Outcome) (checks : Checks) (outcome : Outcome) (check : Check) : Type 0 where
  pub exact : (check ≡ Accepted) ↔ ((checks ≡ EachGraph) × IsDefinite says outcome)
  pub not_refused : check ≢ Refused

-- By the rules alone what is told is right, and it is told as accepted only if a graph shows it.
pub record IsRightlyTold {C A T : Type 0} (X : CxOf C Goal Outcome A T) (cx : C)
    (goal : Goal) (told : Told) : Type 0 where
  pub right : IsRightOutcome X cx goal told.outcome
  pub shown : told.check ≡ Accepted → SomeGraphShows X cx goal told.outcome

-- so is what each question came to, unless it met a fault
abbrev pub AreRight : {C A T : Type 0} → CxOf C Goal Outcome A T → C → List AnsweredQuestion → Type 0
AreRight X cx = All (λ a. IfOk a.came (IsRightlyTold X cx a.question.1))

-- the line of a question that was asked of these rules
abbrev pub line_of : Rules → AnsweredQuestion → List ℕ
line_of rules answered = line_told (unwrap_or (name_of rules answered.question.1) []) answered.came
