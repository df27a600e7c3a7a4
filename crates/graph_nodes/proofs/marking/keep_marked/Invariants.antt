use Rattle.graph_nodes.proofs.KeptNodes.{IsMoved}
use Rattle.graph_nodes.proofs.marking.keep_marked.Given as goal

abbrev pub invariant-loop-place : goal.invariant-loop-place
invariant-loop-place g l = IsMoved l.initial.items l.items l.marked l.count l.place
