use Rattle.std.proofs.Common.{subst, sym, ap, ◌∙◌, arith}
use Rattle.graph_nodes.specs.Words.{HasNumber, slot_at}
use Rattle.graph_nodes.proofs.HeldNodes.{numbered_within}
use Rattle.graph_nodes.proofs.ShownNodes.{forgotten_is_gone, newer_is_there, none_is_gone, other_is_there}
use Rattle.graph_nodes.proofs.node_list.NodeList.get.Goals.{else-number-self-via-then-number-self+else-is_forgotten}
use Rattle.graph_nodes.proofs.node_list.NodeList.get.Goals.{else-number-self-via-else-number-self}
use Rattle.graph_nodes.proofs.node_list.NodeList.get.Goals as goal

pub returns-in_default : goal.returns-in_default
returns-in_default g c =
    none_is_gone g.I.PartialEq.eq c.self.inside.forgotten.entries c.self.inside.first_goal c.self.inside.held.items
    c.self.inside.next c.args.self.now c.self.invariant.0 c.self.view_is c.args.number
    (ap (λ held. slot_at held c.args.number) (sym c.deref.ensures.value) ∙ c.in_default.ensures)

pub index-entry-requires : goal.index-entry-requires
index-entry-requires g c = omega (
  arith,
  numbered_within c.deref.result.now c.in-Some.place c.args.number c.in-Some.ensures,
  c.deref.ensures.len,
)

pub returns-then-is_forgotten : goal.returns-then-is_forgotten
returns-then-is_forgotten g c =
    forgotten_is_gone g.I.PartialEq.eq c.self.inside.forgotten.entries c.self.inside.first_goal c.self.inside.held.items
    c.self.inside.next c.args.self.now c.self.invariant.0 c.self.view_is c.args.number c.in-Some.place
    (subst (λ held. HasNumber held c.in-Some.place c.args.number) c.deref.ensures.value c.in-Some.ensures)
    c.index-entry.result.now c.index-entry.ensures (sym c.if-is_forgotten.ensures)

pub returns : goal.returns
returns g c =
    let has = subst (λ held. HasNumber held c.in-Some.place c.args.number) c.deref.ensures.value c.in-Some.ensures in
    elim c.else-number-self.branch [
      | else-number-self-via-then-number-self+else-is_forgotten w ↦
          other_is_there g.I.PartialEq.eq c.self.inside.forgotten.entries c.self.inside.first_goal
          c.self.inside.held.items c.self.inside.next c.args.self.now c.self.invariant.0 c.self.view_is
          c.args.number c.in-Some.place has c.index-entry.result.now c.index-entry.ensures
          (sym w.if-is_forgotten.ensures)
      | else-number-self-via-else-number-self w ↦
          newer_is_there g.I.PartialEq.eq c.self.inside.forgotten.entries c.self.inside.first_goal
          c.self.inside.held.items c.self.inside.next c.args.self.now c.self.invariant.0 c.self.view_is
          c.args.number c.in-Some.place has c.index-entry.result.now c.index-entry.ensures
          c.self.inside.first_kept c.self.invariant.1 (omega (arith, w.if-number-self.false))
    ]
