use Rattle.type_texts.proofs.Declared.{AreDeclaredTo}
use Rattle.type_texts.proofs.reading.names_in.Given as goal

abbrev pub invariant-loop-before : goal.invariant-loop-before
invariant-loop-before l = AreDeclaredTo l.lines l.before l.names
