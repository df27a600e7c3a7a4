use Rattle.std.proofs.Common.{map, take}
use Rattle.graph_nodes.specs.Words.{AreWaiting, Marks}
use Rattle.graph_nodes.proofs.marking.Marks.mark_targets.Given as goal

abbrev pub invariant-loop-edge : goal.invariant-loop-edge
invariant-loop-edge g l = record {
  waiting : AreWaiting l.self.marked.items l.self.waiting.items;
  marks : Marks l.held (map (λ e. e.target) (take l.edge-index l.edges)) l.initial.self.marked.items l.self.marked.items
      l.initial.self.waiting.items l.self.waiting.items;
}
