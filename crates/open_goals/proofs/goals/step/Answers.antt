use Rattle.std.proofs.Common.{arith, ◌-◌, ◌∙◌, sym, length-set}
use Rattle.open_goals.proofs.Changes.{some_runs}
use Rattle.open_goals.proofs.Steps.{last_can_take, last_failed, last_seen, last_stepped}
use Rattle.open_goals.proofs.goals.step.Goals as goal

pub overflow_sub-last : goal.overflow_sub-last
overflow_sub-last g c = omega (
  arith,
  c.len-last.ensures,
  some_runs c.goals.inside.stack c.goals.inside.runs.items _ c.goals.invariant c.goals.view_is c.requires.some,
)

pub index_mut-requires : goal.index_mut-requires
index_mut-requires g c = omega (
  arith,
  c.len-last.ensures,
  some_runs c.goals.inside.stack c.goals.inside.runs.items _ c.goals.invariant c.goals.view_is c.requires.some,
)

pub step_run-requires : goal.step_run-requires
step_run-requires g c = record {
  can_take =
      last_can_take g.D.Delegate g.D.Cx.Cx c.args.cx c.args.received c.goals.inside.stack c.goals.inside.runs.items _
      c.goals.invariant c.goals.view_is c.requires.some c.requires.can_step
      (c.len-last.result - 1) c.index_mut.result.now
      (omega (arith, c.len-last.ensures)) c.index_mut.ensures.value;
}

pub invariant_of-goals : goal.invariant_of-goals
invariant_of-goals g c = c.goals.invariant ∙ sym (length-set c.goals.inside.runs.items (c.len-last.result - 1) _)

pub returns-clause-stepped : goal.returns-clause-stepped
returns-clause-stepped g c =
    last_stepped g.D.Delegate g.D.Cx.Cx c.args.cx c.args.received c.goals.inside.stack c.goals.inside.runs.items _
    c.goals.invariant c.goals.view_is c.requires.some c.requires.can_step (c.len-last.result - 1) c.index_mut.result.now
    (omega (arith, c.len-last.ensures)) c.index_mut.ensures.value c.step_run.new.run
    c.step_run.result c.step_run.ensures.stepped

pub returns-clause-fault : goal.returns-clause-fault
returns-clause-fault g c =
    last_failed g.D.Delegate g.D.Cx.Cx c.args.cx c.args.received c.goals.inside.stack c.goals.inside.runs.items _
    c.goals.invariant c.goals.view_is c.requires.some c.requires.can_step (c.len-last.result - 1) c.index_mut.result.now
    (omega (arith, c.len-last.ensures)) c.index_mut.ensures.value c.step_run.new.run
    c.step_run.result c.step_run.ensures.fault

pub returns-clause-seen : goal.returns-clause-seen
returns-clause-seen g c =
    last_seen g.D.Delegate g.D.Cx.Cx c.args.cx c.args.received c.goals.inside.stack c.goals.inside.runs.items _
    c.goals.invariant c.goals.view_is c.requires.some c.requires.can_step (c.len-last.result - 1) c.index_mut.result.now
    (omega (arith, c.len-last.ensures)) c.index_mut.ensures.value c.step_run.new.run c.args.inspect.now
    c.step_run.new.inspect c.step_run.result c.step_run.ensures.seen
