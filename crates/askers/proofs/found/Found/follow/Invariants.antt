use Rattle.askers.proofs.Following.{IsFollowing}
use Rattle.askers.proofs.found.Found.follow.Given as goal

abbrev pub invariant-loop-at : goal.invariant-loop-at
invariant-loop-at g l = IsFollowing g.I.PartialEq.eq l.told l.fn.goal l.fn.self l.self l.at

abbrev pub decreases-loop-at : goal.decreases-loop-at
decreases-loop-at g l = l.at
