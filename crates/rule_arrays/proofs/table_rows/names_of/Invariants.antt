use Rattle.std.proofs.Common.{◌≡◌, take}
use Rattle.rule_tables.specs.Rules as tables
use Rattle.rule_arrays.specs.Rows.{names_text}
use Rattle.rule_arrays.proofs.table_rows.names_of.Given as goal

abbrev pub invariant-loop-number : goal.invariant-loop-number
invariant-loop-number l = l.names.items ≡ names_text (take l.number (tables.names_of l.rules))
