use Rattle.std.proofs.Common.{arith, rules}
use Rattle.graph_nodes.proofs.ShownNodes.{none_earlier, none_held}
use Rattle.graph_nodes.proofs.node_list.NodeList.clear.Goals as goal

pub invariant_of-self : goal.invariant_of-self
invariant_of-self g c = (
  none_held c.clear.new.self.items c.clear.ensures.items,
  none_earlier g.I.PartialEq.eq c.new-2.result.entries c.new-2.ensures.empty 0,
  omega arith,
)
