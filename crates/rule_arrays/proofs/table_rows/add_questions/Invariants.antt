use Rattle.std.proofs.Common.{◌≡◌, ◌++◌, map, take}
use Rattle.rule_arrays.specs.Rows.{row_of}
use Rattle.rule_arrays.proofs.table_rows.add_questions.Given as goal

abbrev pub invariant-loop-asking : goal.invariant-loop-asking
invariant-loop-asking l = l.questions.items ≡ l.fn.questions.items ++ map row_of (take l.asking-index l.asked)
