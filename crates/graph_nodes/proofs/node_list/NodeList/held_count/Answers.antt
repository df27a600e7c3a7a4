use Rattle.std.proofs.Common.{◌∙◌, ap, arith, length, refl}
use Rattle.graph_nodes.specs.Words.{shown}
use Rattle.graph_nodes.proofs.Filters.{none_long}
use Rattle.graph_nodes.proofs.ShownNodes.{all_shown, shown_count_is}
use Rattle.graph_nodes.proofs.node_list.NodeList.held_count.Goals as goal

pub returns-then-is_empty : goal.returns-then-is_empty
returns-then-is_empty g c =
    let goals = c.self.inside.forgotten.entries in
    let all = ap length (all_shown g.I.PartialEq.eq goals c.self.inside.held.items
    (none_long goals (c.if-is_empty.ensures.0 refl))) in
    omega (
      arith,
      all,
      shown_count_is g.I.PartialEq.eq c.self.inside.forgotten.entries c.self.inside.first_goal c.self.inside.held.items
          c.self.inside.next c.args.self.now c.self.invariant.0 c.self.view_is,
    )

pub returns : goal.returns
returns g c =
    c.shown_count.ensures ∙ (ap (λ l. length (shown g.I.PartialEq.eq c.self.inside.forgotten.entries l))
    c.deref.ensures.value
    ∙ shown_count_is g.I.PartialEq.eq c.self.inside.forgotten.entries c.self.inside.first_goal c.self.inside.held.items
    c.self.inside.next c.args.self.now c.self.invariant.0 c.self.view_is)
