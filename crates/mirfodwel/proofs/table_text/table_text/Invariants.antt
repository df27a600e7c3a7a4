use Rattle.std.proofs.Common.{◌≡◌}
use Rattle.mirfodwel.specs.Rows.{rows_of}
use Rattle.mirfodwel.specs.TableText.{rules_text}
use Rattle.mirfodwel.proofs.table_text.table_text.Given as goal

abbrev pub invariant-loop-place : goal.invariant-loop-place
invariant-loop-place l = l.text.items ≡ rules_text (rows_of l.lent) l.place
