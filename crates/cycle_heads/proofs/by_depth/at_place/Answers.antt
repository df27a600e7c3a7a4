use Rattle.std.proofs.Common.{sym, ◌∙◌, arith}
use Rattle.cycle_heads.proofs.Places.{found_value, found_within, gap_value}
use Rattle.cycle_heads.proofs.by_depth.at_place.Goals as goal

pub offset_bounds-entries-index : goal.offset_bounds-entries-index
offset_bounds-entries-index g c =
    omega (arith, found_within c.args.depth c.args.entries.now c.in-Ok.index (sym c.requires.place ∙ c.in-Ok.is))

pub bounds-entries-index : goal.bounds-entries-index
bounds-entries-index g c =
    found_within c.args.depth c.args.entries.now c.in-Ok.index (sym c.requires.place ∙ c.in-Ok.is)

pub bounds-entries-index-in-Ok : goal.bounds-entries-index-in-Ok
bounds-entries-index-in-Ok g c =
    found_within c.args.depth c.args.entries.now c.in-Ok.index (sym c.requires.place ∙ c.in-Ok.is)

pub returns-in-Ok : goal.returns-in-Ok
returns-in-Ok g c = sym (found_value c.args.depth c.args.entries.now c.in-Ok.index c.index-entries-index.result
    c.requires.rising (sym c.requires.place ∙ c.in-Ok.is))

pub returns-in-Err : goal.returns-in-Err
returns-in-Err g c = sym (gap_value c.args.depth c.args.entries.now c.in-Err.field-0 c.requires.rising
    (sym c.requires.place ∙ c.in-Err.is))
