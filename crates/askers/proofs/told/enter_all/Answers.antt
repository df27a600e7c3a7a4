use Rattle.std.proofs.Common.{length, refl}
use Rattle.std.proofs.lemmas.Option.{slice_get_read}
use Rattle.std.specs.HashMap as hash
use Rattle.askers.proofs.Entering.{none_entered, one_entered}
use Rattle.askers.proofs.told.enter_all.Goals as goal

pub loop-one-init : goal.loop-one-init
loop-one-init g c = none_entered (hash.get g.I.PartialEq.eq c.args.last.now) c.args.asked.now

pub loop-one-preserved : goal.loop-one-preserved
loop-one-preserved g c =
    let same = g.I.PartialEq.eq in
    one_entered (hash.get same c.args.last.now) (hash.get same c.loop-one.last) (hash.get same c.enter.new.entries)
    c.args.asked.now c.loop-one.one-index c.one-item.result c.loop-one.invariant
    (slice_get_read c.args.asked.now (length c.args.asked.now) c.loop-one.one-index c.one-item.result refl
    c.loop-one-test.true c.one-item.is)
    c.enter.ensures.kept c.in_ok-enter.ensures.entered
