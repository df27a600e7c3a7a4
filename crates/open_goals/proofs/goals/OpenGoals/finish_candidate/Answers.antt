use Rattle.std.proofs.Common.{◌∙◌, None, IsSome, sym, ap, subst}
use Rattle.search_stack.proofs.LastState.{length-change_last}
use Rattle.open_goals.proofs.Changes.{some_entries, state_changed}
use Rattle.open_goals.proofs.CandidateMoves.{open_candidate, candidate_used}
use Rattle.open_goals.proofs.goals.OpenGoals.finish_candidate.Goals as goal

pub last_mut-requires : goal.last_mut-requires
last_mut-requires g c = record {
  some = some_entries c.self.inside.stack c.self.inside.runs.items _ c.self.invariant c.self.view_is c.requires.some;
}

pub unwrap-requires : goal.unwrap-requires
unwrap-requires g c =
    subst IsSome (sym c.take.ensures.value)
    (open_candidate c.self.inside.stack c.self.inside.runs.items _ c.self.invariant c.self.view_is c.requires.some
    c.last_mut.result.now c.last_mut.result.now c.last_mut.ensures.value c.requires.is_open)

pub invariant_of-self : goal.invariant_of-self
invariant_of-self g c = length-change_last _ _ ∙ c.self.invariant

pub returns-clause-ended : goal.returns-clause-ended
returns-clause-ended g c =
    state_changed c.self.inside.stack c.self.inside.runs.items _ c.self.invariant c.self.view_is c.requires.some
    c.last_mut.result.now (record c.last_mut.result.now { candidate_usages = c.take.new.self })
    (λ e. record e { state = record e.state { candidate_usages = None } }) c.last_mut.ensures.value
    (λ e was.
    ap (λ candidate. record e { state = record c.last_mut.result.now { candidate_usages = candidate } })
    c.take.ensures.after
    ∙ ap (λ s. record e { state = record s { candidate_usages = None } }) was)

pub returns-clause-used : goal.returns-clause-used
returns-clause-used g c =
    candidate_used c.self.inside.stack c.self.inside.runs.items _ c.self.invariant c.self.view_is c.requires.some
    c.last_mut.result.now c.last_mut.result.now c.last_mut.ensures.value c.unwrap.result
    (sym c.take.ensures.value ∙ c.unwrap.ensures)
