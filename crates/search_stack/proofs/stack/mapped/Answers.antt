use Rattle.std.proofs.Common.{◌≡◌, ◌<◌, get_or, length, map, ap, sym, ◌∙◌, arith}
use Rattle.std.proofs.lemmas.List.{get_or-map, length-map}
use Rattle.search_stack.proofs.Places.{index_more}
use Rattle.search_stack.proofs.stack.mapped.Goals as goal

pub loop-place-preserved : goal.loop-place-preserved
loop-place-preserved g c =
    let entry = c.index-entries-place.result in
    let below : c.loop-place.place < length c.args.entries.now = omega (arith, c.loop-place-test.true) in
    let inputs = map (λ e. e.input) c.args.entries.now in
    let read : entry.input ≡ get_or inputs c.loop-place.place entry.input =
    ap (λ e. e.input) c.index-entries-place.is
    ∙ sym (get_or-map (λ e. e.input) c.args.entries.now c.loop-place.place entry entry.input below) in
    index_more g.X.Input.PartialEq.eq g.met.X.Input.Eq.laws g.met.X.Cx.same_input _ _ inputs entry.input
    c.loop-place.place c.requires
    (omega (arith, length-map c.args.entries.now (λ e. e.input), below)) read c.loop-place.invariant
    (λ q. rw (c.index-entries-place.is) (c.in_ok-insert.ensures.updates.0 q))
