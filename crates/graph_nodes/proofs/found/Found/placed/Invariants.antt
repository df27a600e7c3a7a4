use Rattle.std.proofs.Common.{map, take}
use Rattle.graph_nodes.specs.Words.{Finds, ArePlaced}
use Rattle.graph_nodes.proofs.found.Found.placed.Given as goal

abbrev pub invariant-loop-edge : goal.invariant-loop-edge
invariant-loop-edge g l = record {
  placed : ArePlaced l.self (take l.edge-index l.edges) l.placed.items;
  finds : Finds l.initial.self l.self (map (λ e. e.target) l.edges);
}
