use Rattle.std.proofs.Common.{◌≡◌, take}
use Rattle.rule_arrays.proofs.changes.compared.ask_the_same.Given as goal

abbrev pub invariant-loop-place : goal.invariant-loop-place
invariant-loop-place l = take l.place l.old ≡ take l.place l.new
