use Rattle.std.proofs.Common.{map, subst}
use Rattle.graph_nodes.specs.Words.{ArePlaced}
use Rattle.graph_nodes.proofs.FoundNodes.{target_of, Finds-nothing, Finds-then, next_placed, none_placed}
use Rattle.graph_nodes.proofs.MarkedNodes.{take_all}
use Rattle.graph_nodes.proofs.found.Found.placed.Goals as goal

pub returns-in_err-target-clause-finds : goal.returns-in_err-target-clause-finds
returns-in_err-target-clause-finds g c =
    Finds-then c.args.self.now c.loop-edge.self c.place_of.new.self
    (map (λ e. e.target) c.args.edges.now) c.edge-item.result.target
    (target_of c.args.edges.now c.loop-edge.edge-index c.edge-item.result c.loop-edge-test.true c.edge-item.is)
    c.loop-edge.invariant.finds c.place_of.ensures.finds

pub returns-in_err-push-clause-finds : goal.returns-in_err-push-clause-finds
returns-in_err-push-clause-finds g c =
    Finds-then c.args.self.now c.loop-edge.self c.place_of.new.self
    (map (λ e. e.target) c.args.edges.now) c.edge-item.result.target
    (target_of c.args.edges.now c.loop-edge.edge-index c.edge-item.result c.loop-edge-test.true c.edge-item.is)
    c.loop-edge.invariant.finds c.place_of.ensures.finds

-- one more edge has its place
pub loop-edge-preserved : goal.loop-edge-preserved
loop-edge-preserved g c = record {
  placed =
      next_placed c.loop-edge.self c.place_of.new.self c.args.edges.now c.loop-edge.placed.items c.push.new.self.items
      c.loop-edge.edge-index c.edge-item.result c.in_ok-target.target
      c.loop-edge-test.true c.edge-item.is c.place_of.ensures.finds.stays c.in_ok-target.ensures.place
      c.in_ok-push.ensures.items c.loop-edge.invariant.placed;
  finds =
      Finds-then c.args.self.now c.loop-edge.self c.place_of.new.self
      (map (λ e. e.target) c.args.edges.now) c.edge-item.result.target
      (target_of c.args.edges.now c.loop-edge.edge-index c.edge-item.result c.loop-edge-test.true c.edge-item.is)
      c.loop-edge.invariant.finds c.place_of.ensures.finds;
}

pub returns : goal.returns
returns g c = record {
  placed = subst (λ edges. ArePlaced c.loop-edge.self edges c.loop-edge.placed.items)
      (take_all c.args.edges.now c.loop-edge.edge-index c.loop-edge-test.false) c.loop-edge.invariant.placed;
  finds = c.loop-edge.invariant.finds;
}

pub loop-edge-init : goal.loop-edge-init
loop-edge-init g c = record {
  placed = none_placed c.args.self.now c.in_ok-placed.placed.items c.in_ok-placed.ensures.items;
  finds = Finds-nothing c.args.self.now (map (λ e. e.target) c.args.edges.now);
}
