use Rattle.std.proofs.Common.{take}
use Rattle.delegate_parts.specs.contracts.outcome.OutcomePartialEq.TheImpl.{eq-value as eq-result}
use Rattle.rule_tables.specs.contracts.rules.GoalPartialEq.TheImpl.{eq-value}
use Rattle.line_texts.proofs.Questions.{AreToldTo}
use Rattle.table_runs.proofs.Answered.{HaveLed}
use Rattle.table_runs.specs.Answers.{AreCountedStarts}
use Rattle.table_runs.specs.Told.{is_fine, line_of}
use Rattle.table_runs.proofs.program.questions.answer_questions.Given as goal

-- the first questions are told
abbrev pub invariant-loop-question : goal.invariant-loop-question
invariant-loop-question g l =
    let contents = g.W.Write.contents in
    AreCountedStarts g.D.Delegate.starts g.D.Delegate.noop → AreToldTo (line_of l.rules) is_fine
    (HaveLed g.D.Delegate g.X.Cx eq-value.it eq-result.it l.checks l.fn.cx l.cache l.shown)
    (take l.question-index l.questions) (contents l.fn.out) (contents l.out) l.waiting.items l.all_fine
