use Rattle.std.proofs.Common.{◌≡◌, ◌+◌, ◌≤◌, ◌++◌, length, vec_len, vec_capacity}
use Rattle.goal_paths.proofs.goal_list.listed.Given as goal

-- what was taken and what is to come are all goals, and there is room for these
abbrev pub invariant-loop-goal : goal.invariant-loop-goal
invariant-loop-goal g l = record {
  all : l.list.items ++ l.goal-iterator ≡ l.initial.goal-iterator;
  room : vec_len l.list + length l.goal-iterator ≤ vec_capacity l.list;
}
