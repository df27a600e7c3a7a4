use Rattle.std.proofs.Common.{ℕ, ◌<◌, ◌≤◌}
use Rattle.trait_goals.specs.Known.{IsKnown}
use Rattle.trait_goals.proofs.goals.Goals.first_unknown.Given as goal

abbrev pub invariant-loop-goal : goal.invariant-loop-goal
invariant-loop-goal l = (other : ℕ) → l.fn.from ≤ other → other < l.goal → IsKnown l.self other
