use Rattle.std.proofs.Common.{ap, arith, length, refl}
use Rattle.graph_nodes.proofs.HeldNodes.{ended_are_held, numbered_within, place_found}
use Rattle.graph_nodes.proofs.ShownNodes.{shown_and_ended, shown_place}
use Rattle.graph_nodes.proofs.node_list.NodeList.finish.Goals as goal

pub unwrap-place-requires : goal.unwrap-place-requires
unwrap-place-requires g c =
    shown_place g.I.PartialEq.eq c.self.inside.forgotten.entries c.self.inside.first_goal c.self.inside.held.items
    c.self.inside.next c.args.self.now c.self.invariant.0 c.self.view_is c.args.number
    c.deref.result.now c.deref.ensures.value c.place_of.result c.place_of.ensures c.requires.is_open

pub index-requires : goal.index-requires
index-requires g c =
    let has = place_found c.self.inside.held.items c.args.number c.deref.result.now c.deref.ensures.value
    c.place_of.result c.place_of.ensures c.unwrap-place.result c.unwrap-place.ensures in
    omega (
      arith,
      numbered_within c.self.inside.held.items c.unwrap-place.result c.args.number has,
      ap length c.deref.ensures.value,
      c.deref.ensures.len,
    )

pub index_mut-requires : goal.index_mut-requires
index_mut-requires g c =
    let has = place_found c.self.inside.held.items c.args.number c.deref.result.now c.deref.ensures.value
    c.place_of.result c.place_of.ensures c.unwrap-place.result c.unwrap-place.ensures in
    omega (
      arith,
      numbered_within c.self.inside.held.items c.unwrap-place.result c.args.number has,
      ap length c.deref.ensures.value,
      c.deref.ensures.len,
    )

pub invariant_of-self : goal.invariant_of-self
invariant_of-self g c =
    let has = place_found c.self.inside.held.items c.args.number c.deref.result.now c.deref.ensures.value
    c.place_of.result c.place_of.ensures c.unwrap-place.result c.unwrap-place.ensures in (
      ended_are_held c.self.inside.first_goal c.self.inside.held.items c.self.inside.next _ c.self.invariant.0 refl
          c.args.number c.unwrap-place.result has c.index.result.now c.index.ensures _ c.input-input.ensures,
      c.self.invariant.1,
      c.self.invariant.2,
    )

pub returns : goal.returns
returns g c =
    let has = place_found c.self.inside.held.items c.args.number c.deref.result.now c.deref.ensures.value
    c.place_of.result c.place_of.ensures c.unwrap-place.result c.unwrap-place.ensures in
    shown_and_ended g.I.PartialEq.eq c.self.inside.forgotten.entries c.self.inside.first_goal c.self.inside.held.items
    c.self.inside.next c.args.self.now c.self.invariant.0 c.self.view_is c.args.number c.unwrap-place.result has
    c.index.result.now c.index.ensures _ c.input-input.ensures c.requires.is_open
