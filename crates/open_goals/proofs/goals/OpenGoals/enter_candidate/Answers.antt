use Rattle.std.proofs.Common.{◌∙◌, [], Some, ap}
use Rattle.search_stack.proofs.LastState.{length-change_last}
use Rattle.open_goals.proofs.Changes.{some_entries, state_changed}
use Rattle.open_goals.proofs.goals.OpenGoals.enter_candidate.Goals as goal

pub last_mut-requires : goal.last_mut-requires
last_mut-requires g c = record {
  some = some_entries c.self.inside.stack c.self.inside.runs.items _ c.self.invariant c.self.view_is c.requires.some;
}

pub invariant_of-self : goal.invariant_of-self
invariant_of-self g c = length-change_last _ _ ∙ c.self.invariant

pub returns : goal.returns
returns g c =
    state_changed c.self.inside.stack c.self.inside.runs.items _ c.self.invariant c.self.view_is c.requires.some
    c.last_mut.result.now (record c.last_mut.result.now { candidate_usages = Some c.args.nothing })
    (λ e. record e { state = record e.state { candidate_usages = Some [] } }) c.last_mut.ensures.value
    (λ e was.
    ap (λ counts. record e { state = record c.last_mut.result.now { candidate_usages = Some counts } })
    c.requires.nothing
    ∙ ap (λ s. record e { state = record s { candidate_usages = Some [] } }) was)
