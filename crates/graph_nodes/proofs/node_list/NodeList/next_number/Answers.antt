use Rattle.graph_nodes.proofs.ShownNodes.{shown_next}
use Rattle.graph_nodes.proofs.node_list.NodeList.next_number.Goals as goal

pub returns : goal.returns
returns g c =
    shown_next g.I.PartialEq.eq c.self.inside.forgotten.entries c.self.inside.first_goal c.self.inside.held.items
    c.self.inside.next c.args.self.now c.self.invariant.0 c.self.view_is
