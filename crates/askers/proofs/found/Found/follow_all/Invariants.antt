use Rattle.askers.specs.Told.{told_of}
use Rattle.askers.proofs.Following.{AreFollowed}
use Rattle.askers.proofs.found.Found.follow_all.Given as goal

abbrev pub invariant-loop-place : goal.invariant-loop-place
invariant-loop-place g l =
    AreFollowed g.I.PartialEq.eq (told_of g.I.PartialEq.eq l.told) l.fn.self l.self l.place
