use Rattle.std.proofs.Common.{[], take}
use Rattle.delegate_parts.specs.contracts.outcome.OutcomePartialEq.TheImpl.{eq-value as eq-result}
use Rattle.rule_tables.specs.contracts.rules.GoalPartialEq.TheImpl.{eq-value}
use Rattle.line_texts.proofs.Questions.{AreToldTo}
use Rattle.trees.specs.Shown.{AreWorkedOut, is_fine, words_shown}
use Rattle.trees.proofs.program.shown.show_questions.Given as goal

-- the first questions are shown, and nothing waits
abbrev pub invariant-loop-question : goal.invariant-loop-question
invariant-loop-question g l =
    let contents = g.W.Write.contents in
    AreToldTo (words_shown l.rules) is_fine (AreWorkedOut g.D.Delegate g.X.Cx eq-value.it eq-result.it l.fn.cx)
    (take l.question-index l.questions) (contents l.fn.out) (contents l.out) [] l.all_fine
