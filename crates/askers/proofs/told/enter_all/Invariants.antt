use Rattle.std.specs.HashMap as hash
use Rattle.askers.proofs.Entering.{AreEntered}
use Rattle.askers.proofs.told.enter_all.Given as goal

abbrev pub invariant-loop-one : goal.invariant-loop-one
invariant-loop-one g l =
    AreEntered (hash.get g.I.PartialEq.eq l.fn.last) (hash.get g.I.PartialEq.eq l.last) l.asked l.one-index
