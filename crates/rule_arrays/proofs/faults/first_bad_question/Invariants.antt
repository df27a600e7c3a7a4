use Rattle.rule_arrays.specs.Faults.{IsQuestionRow, AreBefore}
use Rattle.rule_arrays.proofs.faults.first_bad_question.Given as goal

abbrev pub invariant-loop-place : goal.invariant-loop-place
invariant-loop-place l = AreBefore (IsQuestionRow l.goals) l.questions l.place
