use Rattle.std.proofs.Common.{length, map, take}
use Rattle.std.specs.List.{AllZip}
use Rattle.type_texts.specs.Words.{lines_of, Says, statement_of}
use Rattle.type_texts.proofs.reading.lines_in.Given as goal

abbrev pub invariant-loop-before : goal.invariant-loop-before
invariant-loop-before l = AllZip Says (take (length l.yielded) (lines_of l.text)) (map statement_of l.lines.items)
