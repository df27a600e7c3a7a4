use Rattle.std.proofs.Common.{◌∙◌}
use Rattle.graph_nodes.proofs.MarkedNodes.{Marks-more, Marks-nothing, Marks-whole}
use Rattle.graph_nodes.proofs.marking.Marks.mark_targets.Goals as goal

pub loop-edge-init : goal.loop-edge-init
loop-edge-init g c = record {
  waiting = c.requires.waiting;
  marks = Marks-nothing c.args.held.now c.args.self.now.marked.items c.args.self.now.waiting.items;
}

pub mark-requires : goal.mark-requires
mark-requires g c = record {
  rising = c.requires.rising;
  each = c.loop-edge.invariant.marks.each ∙ c.requires.each;
  waiting = c.loop-edge.invariant.waiting;
}

pub loop-edge-preserved : goal.loop-edge-preserved
loop-edge-preserved g c = record {
  waiting = c.in_ok-mark.ensures.waiting;
  marks =
      Marks-more c.args.held.now (λ e. e.target) c.args.edges.now c.loop-edge.edge-index c.edge-item.result
      c.edge-item.result c.loop-edge-test.true c.edge-item.is
      c.args.self.now.marked.items c.loop-edge.self.marked.items c.mark.new.self.marked.items
      c.args.self.now.waiting.items c.loop-edge.self.waiting.items c.mark.new.self.waiting.items
      c.loop-edge.invariant.marks c.in_ok-mark.ensures.marks;
}

pub returns-clause-marks : goal.returns-clause-marks
returns-clause-marks g c =
    Marks-whole c.args.held.now (λ e. e.target) c.args.edges.now c.loop-edge.edge-index c.loop-edge-test.false
    c.args.self.now.marked.items c.loop-edge.self.marked.items c.args.self.now.waiting.items
    c.loop-edge.self.waiting.items c.loop-edge.invariant.marks
