use Rattle.std.proofs.Common.{◌≡◌, ◌++◌, map, take, drop}
use Rattle.goal_paths.specs.Below.{extended}
use Rattle.goal_paths.proofs.goal_list.raise_each.Given as goal

-- the paths to the first goals are extended, and the others are as they were
abbrev pub invariant-loop-goal : goal.invariant-loop-goal
invariant-loop-goal g l =
    l.goals ≡ map (λ goal. (goal.0, extended goal.1 l.step)) (take l.goal-index l.initial.goals)
    ++ drop l.goal-index l.initial.goals
