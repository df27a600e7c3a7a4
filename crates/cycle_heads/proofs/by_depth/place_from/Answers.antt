use Rattle.std.proofs.Common.{rules, sym}
use Rattle.std.proofs.lemmas.Option.{slice_get_past}
use Rattle.cycle_heads.proofs.Places.{there, next_is_behind, next_is_place, none_is_gap}
use Rattle.cycle_heads.proofs.by_depth.place_from.Goals as goal

pub returns-in-None : goal.returns-in-None
returns-in-None g c = sym (none_is_gap c.args.depth c.args.entries.now c.requires.rising c.args.count c.requires.below
    (slice_get_past c.args.entries.now c.args.count c.in-None.ensures.lookup.3))

pub returns-in-Some : goal.returns-in-Some
returns-in-Some g c = sym (next_is_place c.args.depth c.args.entries.now c.requires.rising
    c.args.count c.requires.below c.in-Some.next.now
    (there c.args.entries.now c.args.count c.in-Some.next.now c.in-Some.ensures.lookup.3) (search rules))

pub returns-in-Some-2 : goal.returns-in-Some-2
returns-in-Some-2 g c = sym
    (next_is_behind c.args.depth c.args.entries.now c.requires.rising c.args.count c.requires.below c.in-Some.next.now
    (there c.args.entries.now c.args.count c.in-Some.next.now c.in-Some.ensures.lookup.3) (search rules))
