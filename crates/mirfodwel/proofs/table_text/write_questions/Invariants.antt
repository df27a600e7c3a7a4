use Rattle.std.proofs.Common.{◌≡◌, ◌++◌, take}
use Rattle.std.specs.List.{flat_map}
use Rattle.mirfodwel.specs.TableText.{question_text}
use Rattle.mirfodwel.proofs.table_text.write_questions.Given as goal

abbrev pub invariant-loop-row : goal.invariant-loop-row
invariant-loop-row l = l.text.items ≡ l.fn.text.items ++ flat_map question_text (take l.row-index l.rows)
