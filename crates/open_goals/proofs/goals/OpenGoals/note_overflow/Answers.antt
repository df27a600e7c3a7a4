use Rattle.std.proofs.Common.{◌∙◌, OnOk, refl, subst}
use Rattle.open_goals.specs.Below.{JoinsPaths, path_of_no_step}
use Rattle.search_stack.proofs.LastState.{length-change_last}
use Rattle.open_goals.proofs.Changes.{some_entries}
use Rattle.open_goals.proofs.NestedGoals.{overflow_noted}
use Rattle.open_goals.proofs.goals.OpenGoals.note_overflow.Goals as goal

pub last-requires : goal.last-requires
last-requires g c = record {
  some = some_entries c.self.inside.stack c.self.inside.runs.items _ c.self.invariant c.self.view_is c.requires;
}

pub last_mut-state-requires : goal.last_mut-state-requires
last_mut-state-requires g c = record {
  some = some_entries c.self.inside.stack c.self.inside.runs.items _ c.self.invariant c.self.view_is c.requires;
}

pub invariant_of-self : goal.invariant_of-self
invariant_of-self g c = length-change_last _ _ ∙ c.self.invariant

pub returns : goal.returns
returns g c =
    overflow_noted _ c.self.inside.stack c.self.inside.runs.items _ c.self.invariant c.self.view_is c.requires
    c.last_mut-state.result.now _ c.last_mut-state.ensures.value c.last.result.now c.last.ensures
    c.insert.result c.insert.new.self refl
    (subst (λ own. OnOk c.insert.result
    (JoinsPaths g.X.Input.PartialEq.eq c.last_mut-state.result.now.nested_goals c.insert.new.self own path_of_no_step))
    c.input-input.ensures c.insert.ensures.ok)
