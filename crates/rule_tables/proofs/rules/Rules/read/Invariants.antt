use Rattle.std.proofs.Common.{length}
use Rattle.rule_tables.proofs.Lines.{IsReadTo}
use Rattle.rule_tables.proofs.rules.Rules.read.Given as goal

abbrev pub invariant-loop-before : goal.invariant-loop-before
invariant-loop-before l = IsReadTo l.text (length l.yielded) l.draft
