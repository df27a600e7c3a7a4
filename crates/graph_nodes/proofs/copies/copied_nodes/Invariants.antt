use Rattle.std.proofs.Common.{◌-◌, length}
use Rattle.graph_nodes.proofs.HandedOut.{IsBegun}
use Rattle.graph_nodes.proofs.copies.copied_nodes.Given as goal

abbrev pub invariant-loop-number : goal.invariant-loop-number
invariant-loop-number g l = IsBegun l.nodes l.fn.root.0 l.copy.items l.found

abbrev pub decreases-loop-number : goal.decreases-loop-number
decreases-loop-number g l = length l.nodes - length l.copy.items
