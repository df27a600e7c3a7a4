use Rattle.trait_goals.specs.Trying.{Extends}
use Rattle.trait_goals.proofs.scout.expand_in_turn.Given as goal

abbrev pub invariant-loop-goal : goal.invariant-loop-goal
invariant-loop-goal l = Extends l.fn.goals l.goals
