use Rattle.rule_tables.proofs.reading.depth.depth_of.Given as goal
use Rattle.rule_tables.proofs.Digits.{IsReadTo}

abbrev pub invariant-loop-digit : goal.invariant-loop-digit
invariant-loop-digit l = IsReadTo l.word l.digit-index l.depth
