use Rattle.std.proofs.Common.{take}
use Rattle.rule_arrays.specs.Rows.{AddsAll}
use Rattle.rule_arrays.proofs.table_rows.add_candidates.Given as goal

abbrev pub invariant-loop-place : goal.invariant-loop-place
invariant-loop-place l =
    AddsAll l.fn.candidates.items l.candidates.items l.fn.questions.items l.questions.items (take l.place l.all)
