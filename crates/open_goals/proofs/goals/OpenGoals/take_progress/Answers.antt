use Rattle.std.proofs.Common.{◌-◌, ◌∙◌, Some, ap, sym, arith, length-set}
use Rattle.open_goals.specs.Below.{no_record}
use Rattle.open_goals.proofs.Changes.{some_runs, newest_run, run_changed}
use Rattle.open_goals.proofs.goals.OpenGoals.take_progress.Goals as goal

pub overflow_sub-last : goal.overflow_sub-last
overflow_sub-last g c = omega (
  arith,
  c.len-last.ensures,
  some_runs c.self.inside.stack c.self.inside.runs.items _ c.self.invariant c.self.view_is c.requires.some,
)

pub index_mut-requires : goal.index_mut-requires
index_mut-requires g c = omega (
  arith,
  c.len-last.ensures,
  some_runs c.self.inside.stack c.self.inside.runs.items _ c.self.invariant c.self.view_is c.requires.some,
)

pub invariant_of-self : goal.invariant_of-self
invariant_of-self g c = c.self.invariant ∙ sym (length-set c.self.inside.runs.items (c.len-last.result - 1) _)

pub returns-clause-taken : goal.returns-clause-taken
returns-clause-taken g c =
    newest_run c.self.inside.stack c.self.inside.runs.items _ c.self.invariant c.self.view_is c.requires.some
    (λ r. r.progress) (c.len-last.result - 1) c.index_mut.result.now (omega (arith, c.len-last.ensures))
    c.index_mut.ensures.value ∙ ap Some (sym c.replace.ensures.value)

pub returns-clause-left : goal.returns-clause-left
returns-clause-left g c =
    run_changed c.self.inside.stack c.self.inside.runs.items _ c.self.invariant c.self.view_is c.requires.some
    (c.len-last.result - 1) c.index_mut.result.now _ (omega (arith, c.len-last.ensures)) c.index_mut.ensures.value
    (λ r. record r { progress = no_record })
    (ap (λ p. record c.index_mut.result.now { progress = p }) (c.replace.ensures.after ∙ c.requires.nothing))
