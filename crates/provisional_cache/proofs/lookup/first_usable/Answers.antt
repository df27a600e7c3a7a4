use Rattle.std.proofs.Common.{◌≢◌, ◌<◌, [], IfSome, arith, length, refl, sym, ap, ◌∙◌, subst}
use Rattle.std.proofs.Math.ListN.{drop_of_length-le}
use Rattle.std.specs.List.{find}
use Rattle.provisional_cache.specs.Below.{highest}
use Rattle.provisional_cache.specs.Words.{may_be_used}
use Rattle.provisional_cache.proofs.ReusedEntries.{found_here, found_later}
use Rattle.provisional_cache.proofs.lookup.first_usable.Goals as goal

pub loop-entry-init : goal.loop-entry-init
loop-entry-init g c = refl

pub offset_bounds-entries-entry-index : goal.offset_bounds-entries-entry-index
offset_bounds-entries-entry-index g c = c.loop-entry.auto.entry-index-end

pub bounds-entries-entry-index : goal.bounds-entries-entry-index
bounds-entries-entry-index g c = c.loop-entry-test.true

pub may_be_used-requires-clause-heads : goal.may_be_used-requires-clause-heads
may_be_used-requires-clause-heads g c =
    subst (λ e. e.heads ≢ []) (sym c.entry-item.is)
    (c.requires.heads c.loop-entry.entry-index c.entry-item.result c.loop-entry-test.true)

pub may_be_used-requires-clause-on_stack : goal.may_be_used-requires-clause-on_stack
may_be_used-requires-clause-on_stack g c =
    subst (λ e. IfSome (highest e.heads) (λ head. head.0.0 < length c.args.stack.now)) (sym c.entry-item.is)
    (c.requires.on_stack c.loop-entry.entry-index c.entry-item.result c.loop-entry-test.true)

pub returns-then-may_be_used : goal.returns-then-may_be_used
returns-then-may_be_used g c =
    found_here (may_be_used c.args.stack.now c.args.step) c.args.entries.now c.loop-entry.entry-index
    c.entry-item.result c.loop-entry-test.true c.entry-item.is c.loop-entry.invariant
    c.may_be_used.result c.may_be_used.ensures c.if-may_be_used.true

pub loop-entry-smaller : goal.loop-entry-smaller
loop-entry-smaller g c = omega (arith, c.loop-entry-test.true)

pub loop-entry-preserved : goal.loop-entry-preserved
loop-entry-preserved g c =
    found_later (may_be_used c.args.stack.now c.args.step) c.args.entries.now c.loop-entry.entry-index
    c.entry-item.result c.loop-entry-test.true c.entry-item.is c.loop-entry.invariant
    c.may_be_used.result c.may_be_used.ensures c.if-may_be_used.false

pub returns : goal.returns
returns g c =
    let none = drop_of_length-le c.args.entries.now {i = c.loop-entry.entry-index} c.loop-entry-test.false in
    sym (ap (find (may_be_used c.args.stack.now c.args.step)) none) ∙ c.loop-entry.invariant
