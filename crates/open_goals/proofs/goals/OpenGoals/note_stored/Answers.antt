use Rattle.std.proofs.Common.{◌∙◌, OnOk, subst}
use Rattle.search_stack.proofs.LastState.{length-change_last}
use Rattle.open_goals.specs.Below.{hit_of}
use Rattle.goal_changes.specs.Words.{TakesNestedGoals}
use Rattle.open_goals.proofs.Changes.{some_entries}
use Rattle.open_goals.proofs.NestedGoals.{stored_taken}
use Rattle.open_goals.proofs.goals.OpenGoals.note_stored.Goals as goal

pub last-requires : goal.last-requires
last-requires g c = record {
  some = some_entries c.self.inside.stack c.self.inside.runs.items _ c.self.invariant c.self.view_is c.requires.some;
}

pub last_mut-state-requires : goal.last_mut-state-requires
last_mut-state-requires g c = record {
  some = some_entries c.self.inside.stack c.self.inside.runs.items _ c.self.invariant c.self.view_is c.requires.some;
}

pub invariant_of-self : goal.invariant_of-self
invariant_of-self g c = length-change_last _ _ ∙ c.self.invariant

pub returns : goal.returns
returns g c =
    stored_taken _ c.self.inside.stack c.self.inside.runs.items _ c.self.invariant c.self.view_is c.requires.some
    c.last_mut-state.result.now _ c.last_mut-state.ensures.value c.last.result.now c.last.ensures
    c.note_nested_goals.result c.args.step (hit_of c.args.stored.now) c.note_depth.new.state
    c.note_depth.ensures c.note_nested_goals.ensures.others
    (subst (λ own. OnOk c.note_nested_goals.result (TakesNestedGoals g.X.Input.PartialEq.eq own c.args.step
    c.args.stored.now.nested_goals.now c.note_depth.new.state.nested_goals c.note_nested_goals.new.state.nested_goals))
    c.input-input.ensures c.note_nested_goals.ensures.taken)
