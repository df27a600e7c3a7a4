use Rattle.strong_components.specs.Words.{successor_lists}
use Rattle.trait_goals.specs.Decided.{IsGraphTo}
use Rattle.trait_goals.proofs.goals.Goals.graph.Given as goal

abbrev pub invariant-loop-goal : goal.invariant-loop-goal
invariant-loop-goal l = IsGraphTo l.self (successor_lists l.graph.items) l.goal
