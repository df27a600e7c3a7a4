use Rattle.std.proofs.Common.{arith, refl}
use Rattle.graph_nodes.specs.Words.{is_among, shown}
use Rattle.graph_nodes.proofs.Filters.{none_long}
use Rattle.graph_nodes.proofs.Forgotten.{none_goes, others_are_left, others_then}
use Rattle.graph_nodes.proofs.ShownNodes.{noted_are_earlier, others_shown, shown_are_held}
use Rattle.graph_nodes.proofs.node_list.NodeList.forget.Goals as goal

pub returns-then-is_empty : goal.returns-then-is_empty
returns-then-is_empty g c =
    none_goes g.I.PartialEq.eq c.args.gone.now.keys c.args.self.now
    (none_long c.args.gone.now.keys (c.if-is_empty.ensures.0 refl))

pub invariant_of-self : goal.invariant_of-self
invariant_of-self g c = (
  c.self.invariant.0,
  noted_are_earlier g.I.PartialEq.eq c.in-Err.ensures.refused.0 c.self.inside.first_kept c.self.inside.next
      c.self.inside.forgotten.entries c.note_forgotten.new.forgotten.entries c.self.invariant.2 c.self.invariant.1
      c.in-Err.ensures.refused.1,
  omega arith,
)

pub invariant_of-self-in_default : goal.invariant_of-self-in_default
invariant_of-self-in_default g c = (
  c.self.invariant.0,
  noted_are_earlier g.I.PartialEq.eq (is_among g.I.PartialEq.eq c.args.gone.now.keys) c.self.inside.first_kept
      c.self.inside.next c.self.inside.forgotten.entries c.note_forgotten.new.forgotten.entries c.self.invariant.2
      c.self.invariant.1 c.in_default.ensures.noted,
  omega arith,
)

pub returns-in_default : goal.returns-in_default
returns-in_default g c =
    let same = g.I.PartialEq.eq in
    let goals = c.self.inside.forgotten.entries in
    let first_goal = c.self.inside.first_goal in
    let held = c.self.inside.held.items in
    let next = c.self.inside.next in
    let is_gone = is_among same c.args.gone.now.keys in
    others_are_left is_gone first_goal (shown same goals held) _ next c.args.self.now c.self.view_is
    (others_shown same is_gone next goals c.note_forgotten.new.forgotten.entries held c.self.invariant.0.below
    c.in_default.ensures.noted)
    (shown_are_held same goals first_goal held next c.self.invariant.0)

pub returns-in-Err : goal.returns-in-Err
returns-in-Err g c =
    let same = g.I.PartialEq.eq in
    let goals = c.self.inside.forgotten.entries in
    let first_goal = c.self.inside.first_goal in
    let held = c.self.inside.held.items in
    let next = c.self.inside.next in
    let noted = c.in-Err.ensures.refused in
    others_then noted.0 (is_among same c.args.gone.now.keys) noted.2 c.args.self.now _ _
    (others_are_left noted.0 first_goal (shown same goals held) _ next c.args.self.now c.self.view_is
    (others_shown same noted.0 next goals c.note_forgotten.new.forgotten.entries held c.self.invariant.0.below
    noted.1)
    (shown_are_held same goals first_goal held next c.self.invariant.0))
    c.let_go-in-Err.ensures
