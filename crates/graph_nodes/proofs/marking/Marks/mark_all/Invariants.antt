use Rattle.std.proofs.Common.{◌≡◌, length, take}
use Rattle.graph_nodes.specs.Words.{with_root}
use Rattle.graph_nodes.proofs.MarkedNodes.{AreFollowed, numbers_of}
use Rattle.graph_nodes.proofs.marking.Marks.mark_all.Given as goal

abbrev pub invariant-loop-root : goal.invariant-loop-root
invariant-loop-root g l = record {
  followed : AreFollowed l.held (numbers_of (with_root l.last l.roots))
      (numbers_of (take l.root-index l.roots)) l.self.marked.items;
  none_waits : length l.self.waiting.items ≡ 0;
}
