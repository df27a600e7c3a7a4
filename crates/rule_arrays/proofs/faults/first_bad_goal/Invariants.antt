use Rattle.rule_arrays.specs.Faults.{IsGoalRow, AreBefore}
use Rattle.rule_arrays.proofs.faults.first_bad_goal.Given as goal

abbrev pub invariant-loop-place : goal.invariant-loop-place
invariant-loop-place l = AreBefore (IsGoalRow l.candidates) l.goals l.place
