use Rattle.std.proofs.Common.{◌≤◌, arith, count_by, vec_capacity}
use Rattle.graph_nodes.specs.Bytes.{node_bytes}
use Rattle.graph_nodes.specs.Words.{is_held}
use Rattle.graph_nodes.proofs.HeldBytes.{covers_first, covers_part}
use Rattle.graph_nodes.proofs.ShownNodes.{shown_are_fewer}
use Rattle.graph_nodes.proofs.node_list.NodeList.held_bytes.Goals as goal

pub returns : goal.returns
unfolding node_bytes
returns g c =
    let fewer = shown_are_fewer g.I.PartialEq.eq c.self.inside.forgotten.entries c.self.inside.first_goal
    c.self.inside.held.items c.self.inside.next c.args.self.now c.self.invariant.0 c.self.view_is in
    let fits : count_by is_held c.args.self.now ≤ vec_capacity c.self.inside.held = omega arith in
    covers_first _ _ _ _ (covers_part _ _ _ _ _ _ fits c.list_bytes.ensures c.saturating_add.ensures)
    c.saturating_add-2.ensures
