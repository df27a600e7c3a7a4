use Rattle.std.proofs.Common.{◌+◌, length}
use Rattle.graph_nodes.specs.Words.{unmarked}
use Rattle.graph_nodes.proofs.MarkedNodes.{IsFollowed}
use Rattle.graph_nodes.proofs.marking.Marks.mark_from.Given as goal

abbrev pub invariant-loop-place : goal.invariant-loop-place
invariant-loop-place g l = IsFollowed l.held l.fn.number l.fn.self.marked.items l.self.marked.items l.self.waiting.items

abbrev pub decreases-loop-place : goal.decreases-loop-place
decreases-loop-place g l = unmarked l.self.marked.items + length l.self.waiting.items
