use Rattle.rule_arrays.specs.Faults.{IsCandidateRow, AreBefore}
use Rattle.rule_arrays.proofs.faults.first_bad_candidate.Given as goal

abbrev pub invariant-loop-place : goal.invariant-loop-place
invariant-loop-place l = AreBefore (IsCandidateRow l.questions) l.candidates l.place
