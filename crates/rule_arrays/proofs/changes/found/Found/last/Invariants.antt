use Rattle.std.proofs.Common.{◌≤◌, ℕ, Contains, take}
use Rattle.rule_arrays.proofs.changes.found.Found.last.Given as goal

abbrev pub invariant-loop-goal : goal.invariant-loop-goal
invariant-loop-goal l = (goal : ℕ) → Contains (take l.goal-index l.goal-items) goal → goal ≤ l.last
