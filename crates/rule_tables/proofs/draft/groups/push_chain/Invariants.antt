use Rattle.std.proofs.Common.{◌<◌, ◌^◌, ◌++◌, List, map}
use Rattle.rule_tables.specs.Groups.{IsChain, row_of}
use Rattle.rule_tables.specs.declared.draft.DraftRule.{DraftRule}
use Rattle.rule_tables.proofs.Groups.{IsLeft}
use Rattle.rule_tables.proofs.draft.groups.push_chain.Given as goal

abbrev pub invariant-loop-number : goal.invariant-loop-number
invariant-loop-number l = (l.number < 2 ^ 32) × ((chain : List DraftRule) → IsChain l.rules l.nexts l.first chain
    → IsLeft l.rules l.nexts l.number l.rows.items (l.fn.rows.items ++ map row_of chain))

abbrev pub decreases-loop-number : goal.decreases-loop-number
decreases-loop-number l = l.number
