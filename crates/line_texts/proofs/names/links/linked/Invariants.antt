use Rattle.line_texts.specs.Names.{AreLinked}
use Rattle.line_texts.proofs.names.links.linked.Given as goal

abbrev pub invariant-loop-number : goal.invariant-loop-number
invariant-loop-number l = AreLinked l.heads l.links.items l.names l.number
