use Rattle.std.proofs.Common.{arith, refl, sym, ap, ◌∙◌}
use Rattle.std.proofs.Math.ListN.{drop_of_length-le}
use Rattle.std.specs.List.{list_any}
use Rattle.provisional_cache.proofs.ConcernedLists.{is_concerned, here_passes, later_tell}
use Rattle.provisional_cache.proofs.concerned.concerns_list.Goals as goal

pub loop-entry-init : goal.loop-entry-init
loop-entry-init g c = refl

pub offset_bounds-entries-entry-index : goal.offset_bounds-entries-entry-index
offset_bounds-entries-entry-index g c = c.loop-entry.auto.entry-index-end

pub bounds-entries-entry-index : goal.bounds-entries-entry-index
bounds-entries-entry-index g c = c.loop-entry-test.true

pub returns-then-concerns_entry : goal.returns-then-concerns_entry
returns-then-concerns_entry g c =
    here_passes (is_concerned c.args.depth.0) c.args.entries.now c.loop-entry.entry-index c.entry-item.result
    c.loop-entry-test.true c.entry-item.is c.loop-entry.invariant
    (sym c.concerns_entry.ensures ∙ c.if-concerns_entry.true)

pub loop-entry-smaller : goal.loop-entry-smaller
loop-entry-smaller g c = omega (arith, c.loop-entry-test.true)

pub loop-entry-preserved : goal.loop-entry-preserved
loop-entry-preserved g c =
    later_tell (is_concerned c.args.depth.0) c.args.entries.now c.loop-entry.entry-index c.entry-item.result
    c.loop-entry-test.true c.entry-item.is c.loop-entry.invariant
    (sym c.concerns_entry.ensures ∙ c.if-concerns_entry.false)

pub returns : goal.returns
returns g c =
    let none = drop_of_length-le c.args.entries.now {i = c.loop-entry.entry-index} c.loop-entry-test.false in
    sym (ap (list_any (is_concerned c.args.depth.0)) none) ∙ c.loop-entry.invariant
