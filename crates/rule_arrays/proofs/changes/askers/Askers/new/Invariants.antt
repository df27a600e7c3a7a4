use Rattle.std.proofs.Common.{◌<◌}
use Rattle.rule_arrays.specs.Askers.{AddsAskers}
use Rattle.rule_arrays.specs.Changes.{Asks}
use Rattle.rule_arrays.specs.Compared.{table_in}
use Rattle.rule_arrays.proofs.changes.askers.Askers.new.Given as goal

abbrev pub invariant-loop-place : goal.invariant-loop-place
invariant-loop-place l = AddsAskers
    (λ asked asker. (asker < l.place) × Asks (table_in l.rows) asker asked) l.initial.askers l.askers
