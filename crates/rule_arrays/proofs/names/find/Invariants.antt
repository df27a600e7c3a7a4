use Rattle.std.proofs.Common.{length}
use Rattle.rule_arrays.proofs.FirstLine.{IsLater}
use Rattle.rule_arrays.proofs.names.find.Given as goal

abbrev pub invariant-loop-place : goal.invariant-loop-place
invariant-loop-place l = IsLater l.names l.name (length l.yielded)
