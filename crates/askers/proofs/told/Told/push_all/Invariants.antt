use Rattle.askers.proofs.Entering.{IsPushing}
use Rattle.askers.proofs.told.Told.push_all.Given as goal

abbrev pub invariant-loop-one : goal.invariant-loop-one
invariant-loop-one g l = IsPushing g.I.PartialEq.eq l.fn.goal l.asked l.fn.self l.self l.one-index
