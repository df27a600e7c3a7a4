use Rattle.askers.proofs.Again.{IsToldAgain}
use Rattle.askers.proofs.told.Told.shortened.Given as goal

abbrev pub invariant-loop-place : goal.invariant-loop-place
invariant-loop-place g l = IsToldAgain g.I.PartialEq.eq l.self l.told l.place
