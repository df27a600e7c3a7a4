use Rattle.std.proofs.Common.{arith}
use Rattle.graph_nodes.proofs.ShownNodes.{shown_are_fewer}
use Rattle.graph_nodes.proofs.node_list.NodeList.count_in_memory.Goals as goal

pub returns : goal.returns
returns g c = omega (
  arith,
  shown_are_fewer g.I.PartialEq.eq c.self.inside.forgotten.entries c.self.inside.first_goal c.self.inside.held.items
      c.self.inside.next c.args.self.now c.self.invariant.0 c.self.view_is,
)
