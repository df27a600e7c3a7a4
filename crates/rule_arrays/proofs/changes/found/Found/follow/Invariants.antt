use Rattle.rule_arrays.proofs.Finding.{IsFollowing}
use Rattle.rule_arrays.proofs.changes.found.Found.follow.Given as goal

abbrev pub invariant-loop-at : goal.invariant-loop-at
invariant-loop-at l = IsFollowing l.askers l.goal l.fn.self l.self l.at

abbrev pub decreases-loop-at : goal.decreases-loop-at
decreases-loop-at l = l.at
