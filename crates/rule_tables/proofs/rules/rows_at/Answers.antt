use Rattle.std.proofs.Common.{arith}
use Rattle.rule_tables.proofs.Rows.{ends_within, no_rows, rows_between_are}
use Rattle.rule_tables.proofs.rules.rows_at.Goals as goal

pub returns-in_default : goal.returns-in_default
returns-in_default c = no_rows c.args.starts.now c.args.rows.now c.args.number c.in_default.ensures.lookup.3

pub overflow_add-place : goal.overflow_add-place
overflow_add-place c = omega (arith, c.ranges.number.fits)

pub bounds-starts-place : goal.bounds-starts-place
bounds-starts-place c = omega (arith, c.in-Some.ensures.lookup.3.0)

pub offset_bounds-rows-starts : goal.offset_bounds-rows-starts
offset_bounds-rows-starts c = omega (arith, c.type_inv.starts c.args.number)

pub slice_bounds-result-count : goal.slice_bounds-result-count
slice_bounds-result-count c = (ends_within c.args.starts.now c.args.rows.now c.args.number c.in-Some.end.now
    c.in-Some.ensures.lookup.3.0 c.in-Some.ensures.lookup.1 c.requires.ordered).0

pub returns : goal.returns
returns c = rows_between_are c.args.starts.now c.args.rows.now c.args.number c.in-Some.end.now
    c.in-Some.ensures.lookup.3.0 c.in-Some.ensures.lookup.1
