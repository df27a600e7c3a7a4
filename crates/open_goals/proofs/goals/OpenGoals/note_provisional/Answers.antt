use Rattle.std.proofs.Common.{◌-◌, ◌∙◌, refl, ap, arith}
use Rattle.search_stack.proofs.LastState.{length-change_last}
use Rattle.open_goals.proofs.Changes.{some_entries, newest_answered}
use Rattle.open_goals.proofs.NestedGoals.{nested_answered}
use Rattle.open_goals.proofs.goals.OpenGoals.note_provisional.Goals as goal

pub overflow_sub-len : goal.overflow_sub-len
overflow_sub-len g c = omega (
  arith,
  c.len.ensures,
  some_entries c.self.inside.stack c.self.inside.runs.items _ c.self.invariant c.self.view_is c.requires.some,
)

pub last-requires : goal.last-requires
last-requires g c = record {
  some = some_entries c.self.inside.stack c.self.inside.runs.items _ c.self.invariant c.self.view_is c.requires.some;
}

pub last_mut-state-requires : goal.last_mut-state-requires
last_mut-state-requires g c = record {
  some = some_entries c.self.inside.stack c.self.inside.runs.items _ c.self.invariant c.self.view_is c.requires.some;
}

pub invariant_of-self : goal.invariant_of-self
invariant_of-self g c = length-change_last _ _ ∙ c.self.invariant

pub invariant_of-self-2 : goal.invariant_of-self-2
invariant_of-self-2 g c = length-change_last _ _ ∙ c.self.invariant

pub returns-clause-answered : goal.returns-clause-answered
returns-clause-answered g c =
    newest_answered c.self.inside.stack c.self.inside.runs.items _ c.self.invariant c.self.view_is c.requires.some
    c.last_mut-state.result.now (record c.note_heads.new.state { nested_goals = c.insert.new.self })
    c.last_mut-state.ensures.value c.args.step _ _ _ c.new-parent.result
    (c.new-parent.ensures ∙ ap (λ n. n - 1) c.len.ensures) _ c.note_depth.ensures c.insert.result
    c.note_heads.new.state c.in_ok-note_heads.ensures refl

pub returns-clause-nested : goal.returns-clause-nested
returns-clause-nested g c =
    nested_answered g.X.Input.PartialEq.eq c.self.inside.stack c.self.inside.runs.items _ c.self.invariant
    c.self.view_is c.requires.some c.last_mut-state.result.now
    (record c.note_heads.new.state { nested_goals = c.insert.new.self }) c.last_mut-state.ensures.value
    c.last.result.now c.last.ensures c.insert.result _ _ c.args.step 0 _ _ _ _ c.note_depth.ensures
    c.in_ok-note_heads.ensures _ c.input-own.ensures c.insert.ensures.ok
