use Rattle.std.proofs.Common.{length}
use Rattle.rule_tables.specs.Groups.{AreLinked}
use Rattle.rule_tables.proofs.draft.groups.link.Given as goal

abbrev pub invariant-loop-behind : goal.invariant-loop-behind
invariant-loop-behind l = AreLinked l.rules l.behind (length l.initial.firsts.items) l.firsts.items l.nexts.items
