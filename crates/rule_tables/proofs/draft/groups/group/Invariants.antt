use Rattle.rule_tables.specs.Groups.{AreGroups}
use Rattle.rule_tables.proofs.draft.groups.group.Given as goal

abbrev pub invariant-loop-first : goal.invariant-loop-first
invariant-loop-first l = AreGroups l.rules l.first-index l.starts.items l.rows.items
