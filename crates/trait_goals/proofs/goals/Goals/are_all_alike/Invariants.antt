use Rattle.std.proofs.Common.{ℕ, ◌<◌, All, [], get_or}
use Rattle.strong_components.specs.Words.{successor_lists}
use Rattle.trait_goals.specs.Decided.{AreAlike}
use Rattle.trait_goals.proofs.goals.Goals.are_all_alike.Given as goal

abbrev pub invariant-loop-goal : goal.invariant-loop-goal
invariant-loop-goal l = (other : ℕ) → other < l.goal →
    All (AreAlike l.self l.numbers other) (get_or (successor_lists l.graph) other [])
