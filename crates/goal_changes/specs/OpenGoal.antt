-- A goal under evaluation.
use Rattle.goal_changes.specs.Below.{StackEntry, Run}

-- its entry on the stack, and its run
abbrev pub OpenGoal : Type 0 → Type 0 → Type 0 → Type 0 → Type 0 → Type 0 → Type 0
OpenGoal X F I R A T = StackEntry X I R A T × Run X F I R A T
