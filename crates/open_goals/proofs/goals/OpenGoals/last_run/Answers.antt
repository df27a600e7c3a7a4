use Rattle.std.proofs.Common.{◌-◌, arith}
use Rattle.open_goals.proofs.Changes.{newest_run, some_runs}
use Rattle.open_goals.proofs.goals.OpenGoals.last_run.Goals as goal

pub overflow_sub-len : goal.overflow_sub-len
overflow_sub-len g c = omega (
  arith,
  c.len.ensures,
  some_runs c.self.inside.stack c.self.inside.runs.items _ c.self.invariant c.self.view_is c.requires,
)

pub index-requires : goal.index-requires
index-requires g c = omega (
  arith,
  c.len.ensures,
  some_runs c.self.inside.stack c.self.inside.runs.items _ c.self.invariant c.self.view_is c.requires,
)

pub returns : goal.returns
returns g c = newest_run c.self.inside.stack c.self.inside.runs.items _ c.self.invariant c.self.view_is c.requires
    (λ r. r) (c.len.result - 1) c.index.result.now (omega (arith, c.len.ensures)) c.index.ensures
