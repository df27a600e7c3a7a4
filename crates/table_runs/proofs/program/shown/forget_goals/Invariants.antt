use Rattle.std.proofs.Common.{map}
use Rattle.std.specs.Map.Iter.{deref}
use Rattle.rule_tables.specs.contracts.rules.GoalPartialEq.TheImpl.{eq-value}
use Rattle.table_runs.specs.Below.{is_among}
use Rattle.table_runs.specs.Shown.{ForgetsGone}
use Rattle.table_runs.proofs.program.shown.forget_goals.Given as goal

-- the goals so far are forgotten
abbrev pub invariant-loop-goal : goal.invariant-loop-goal
invariant-loop-goal l =
    ForgetsGone eq-value.it (is_among eq-value.it (map deref l.yielded)) l.fn.shown.entries l.shown.entries
