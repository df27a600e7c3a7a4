use Rattle.std.proofs.Common.{◌-◌, ◌∙◌, ap, arith}
use Rattle.search_stack.proofs.LastState.{length-change_last}
use Rattle.open_goals.proofs.Changes.{some_entries}
use Rattle.open_goals.proofs.CandidateMoves.{some_counted, newest_counts, newest_ignores}
use Rattle.open_goals.proofs.goals.OpenGoals.ignore_usages.Goals as goal

pub overflow_sub-len : goal.overflow_sub-len
overflow_sub-len g c = omega (
  arith,
  c.len.ensures,
  some_entries c.self.inside.stack c.self.inside.runs.items _ c.self.invariant c.self.view_is
      (some_counted c.args.candidate.now _ c.requires.can),
)

pub last_mut-requires : goal.last_mut-requires
last_mut-requires g c = record {
  some = some_entries c.self.inside.stack c.self.inside.runs.items _ c.self.invariant c.self.view_is
      (some_counted c.args.candidate.now _ c.requires.can);
}

pub ignore_usages-requires : goal.ignore_usages-requires
ignore_usages-requires g c = record {
  can =
      newest_counts c.self.inside.stack c.self.inside.runs.items _ c.self.invariant c.self.view_is
      (some_counted c.args.candidate.now _ c.requires.can) c.last_mut.result.now c.last_mut.result.now
      c.last_mut.ensures.value c.args.candidate.now c.new-parent.result
      (c.new-parent.ensures ∙ ap (λ n. n - 1) c.len.ensures) c.requires.can;
}

pub invariant_of-self : goal.invariant_of-self
invariant_of-self g c = length-change_last _ _ ∙ c.self.invariant

pub returns : goal.returns
returns g c =
    newest_ignores c.self.inside.stack c.self.inside.runs.items _ c.self.invariant c.self.view_is
    (some_counted c.args.candidate.now _ c.requires.can) c.last_mut.result.now c.ignore_usages.new.state
    c.last_mut.ensures.value c.args.candidate.now c.new-parent.result
    (c.new-parent.ensures ∙ ap (λ n. n - 1) c.len.ensures) c.ignore_usages.ensures
