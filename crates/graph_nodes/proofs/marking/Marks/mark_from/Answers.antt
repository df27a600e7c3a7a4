use Rattle.std.proofs.Common.{arith, length, refl}
use Rattle.std.proofs.lemmas.Option.{slice_get_read}
use Rattle.graph_nodes.proofs.MarkedNodes.{AreWaiting-none, follow_first, follow_less, follow_next, followed_closed}
use Rattle.graph_nodes.proofs.MarkedNodes.{followed_marks, left_waiting, nothing_left, place_within}
use Rattle.graph_nodes.proofs.marking.Marks.mark_from.Goals as goal

pub mark-requires : goal.mark-requires
mark-requires g c = record {
  rising = c.requires.rising;
  each = c.requires.each;
  waiting = AreWaiting-none c.args.self.now.marked.items c.args.self.now.waiting.items c.requires.none_waits;
}

pub loop-place-init : goal.loop-place-init
loop-place-init g c =
    follow_first c.args.held.now c.args.number c.args.self.now.marked.items c.args.self.now.waiting.items
    c.mark.new.self.marked.items c.mark.new.self.waiting.items
    c.requires.each c.requires.none_waits c.requires.closed c.in_ok-mark.ensures.waiting c.in_ok-mark.ensures.marks

pub offset_bounds-held-place : goal.offset_bounds-held-place
offset_bounds-held-place g c = omega (
  arith,
  place_within c.args.held.now c.args.number c.args.self.now.marked.items c.loop-place.self.marked.items
      c.loop-place.self.waiting.items c.loop-place.invariant c.pop.new.self.items
      c.in-Some.place c.in-Some.ensures.items,
)

pub bounds-held-place : goal.bounds-held-place
bounds-held-place g c =
    place_within c.args.held.now c.args.number c.args.self.now.marked.items c.loop-place.self.marked.items
    c.loop-place.self.waiting.items c.loop-place.invariant c.pop.new.self.items c.in-Some.place c.in-Some.ensures.items

pub mark_behind-requires : goal.mark_behind-requires
mark_behind-requires g c = record {
  rising = c.requires.rising;
  each = c.loop-place.invariant.each;
  waiting = left_waiting c.args.held.now c.args.number c.args.self.now.marked.items c.loop-place.self.marked.items
      c.loop-place.self.waiting.items c.loop-place.invariant c.pop.new.self.items
      c.in-Some.place c.in-Some.ensures.items;
}

pub loop-place-smaller : goal.loop-place-smaller
loop-place-smaller g c =
    follow_less c.args.held.now c.args.number c.args.self.now.marked.items c.loop-place.self.marked.items
    c.loop-place.self.waiting.items c.loop-place.invariant c.pop.new.self.items c.in-Some.place c.in-Some.ensures.items
    c.mark_behind.new.self.marked.items c.mark_behind.new.self.waiting.items
    c.index-held-place.result c.in_ok-mark_behind.ensures.marks

pub loop-place-preserved : goal.loop-place-preserved
loop-place-preserved g c =
    let within = place_within c.args.held.now c.args.number c.args.self.now.marked.items c.loop-place.self.marked.items
    c.loop-place.self.waiting.items c.loop-place.invariant c.pop.new.self.items
    c.in-Some.place c.in-Some.ensures.items in
    follow_next c.args.held.now c.args.number c.args.self.now.marked.items c.loop-place.self.marked.items
    c.loop-place.self.waiting.items c.loop-place.invariant c.pop.new.self.items c.in-Some.place c.in-Some.ensures.items
    c.mark_behind.new.self.marked.items c.mark_behind.new.self.waiting.items
    c.index-held-place.result c.in_ok-mark_behind.ensures.marks
    (slice_get_read c.args.held.now (length c.args.held.now) c.in-Some.place
    c.index-held-place.result refl within c.index-held-place.is)
    c.in_ok-mark_behind.ensures.waiting

pub returns-clause-closed : goal.returns-clause-closed
returns-clause-closed g c = followed_closed c.args.held.now c.args.number c.args.self.now.marked.items
    c.loop-place.self.marked.items c.loop-place.self.waiting.items c.loop-place.invariant
    (nothing_left (length c.loop-place.self.waiting.items) c.in_default.ensures.variant.1)

pub returns-clause-marks : goal.returns-clause-marks
returns-clause-marks g c = followed_marks c.args.held.now c.args.number c.args.self.now.marked.items
    c.loop-place.self.marked.items c.loop-place.self.waiting.items c.loop-place.invariant
    (nothing_left (length c.loop-place.self.waiting.items) c.in_default.ensures.variant.1) c.requires.each
