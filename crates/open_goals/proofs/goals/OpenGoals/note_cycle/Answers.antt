use Rattle.std.proofs.Common.{◌-◌, ◌∙◌, ◌∷◌, [], false, OnOk, refl, ap, subst, arith}
use Rattle.search_stack.proofs.LastState.{length-change_last}
use Rattle.open_goals.specs.Below.{change_last, JoinsPaths}
use Rattle.goal_changes.specs.Words.{paired, AnswersNewest}
use Rattle.open_goals.proofs.Changes.{some_entries, newest_answered}
use Rattle.open_goals.proofs.NestedGoals.{head_joined, nested_answered}
use Rattle.open_goals.proofs.TakenHeads.{one_taken}
use Rattle.open_goals.proofs.goals.OpenGoals.note_cycle.Goals as goal

pub overflow_sub-len : goal.overflow_sub-len
overflow_sub-len g c = omega (
  arith,
  c.len.ensures,
  some_entries c.self.inside.stack c.self.inside.runs.items _ c.self.invariant c.self.view_is c.requires,
)

pub last-requires : goal.last-requires
last-requires g c = record {
  some = some_entries c.self.inside.stack c.self.inside.runs.items _ c.self.invariant c.self.view_is c.requires;
}

pub last_mut-state-requires : goal.last_mut-state-requires
last_mut-state-requires g c = record {
  some = some_entries c.self.inside.stack c.self.inside.runs.items _ c.self.invariant c.self.view_is c.requires;
}

pub invariant_of-self : goal.invariant_of-self
invariant_of-self g c = length-change_last _ _ ∙ c.self.invariant

pub invariant_of-self-in_err-insert : goal.invariant_of-self-in_err-insert
invariant_of-self-in_err-insert g c = length-change_last _ _ ∙ c.self.invariant

pub invariant_of-self-2 : goal.invariant_of-self-2
invariant_of-self-2 g c = length-change_last _ _ ∙ c.self.invariant

pub returns-clause-answered : goal.returns-clause-answered
returns-clause-answered g c =
    subst (λ used. OnOk c.insert-2.result (AnswersNewest c.args.step 0 false ((c.args.head, used) ∷ []) c.args.self.now
    (paired [] (change_last (λ e. record e {
      state = record c.note_head.new.state { nested_goals = c.insert-2.new.self };
    }) c.self.inside.stack) c.self.inside.runs.items))) c.cycle_head-used.ensures
    (newest_answered c.self.inside.stack c.self.inside.runs.items _ c.self.invariant c.self.view_is c.requires
    c.last_mut-state.result.now (record c.note_head.new.state { nested_goals = c.insert-2.new.self })
    c.last_mut-state.ensures.value c.args.step _ _ _ c.new-parent.result
    (c.new-parent.ensures ∙ ap (λ n. n - 1) c.len.ensures) _ c.note_depth.ensures
    c.insert-2.result c.note_head.new.state
    (one_taken c.new-parent.result c.args.step c.args.head _ _ c.note_head.new.state c.in_ok-note_head.ensures) refl)

pub returns-clause-nested : goal.returns-clause-nested
returns-clause-nested g c =
    nested_answered g.X.Input.PartialEq.eq c.self.inside.stack c.self.inside.runs.items _ c.self.invariant
    c.self.view_is c.requires c.last_mut-state.result.now
    (record c.note_head.new.state { nested_goals = c.insert-2.new.self }) c.last_mut-state.ensures.value
    c.last.result.now c.last.ensures c.insert-2.result _ c.new-parent.result c.args.step 0 _ _ _
    c.note_head.new.state c.note_depth.ensures
    (one_taken c.new-parent.result c.args.step c.args.head _ _ c.note_head.new.state c.in_ok-note_head.ensures) _
    c.input-input.ensures
    (head_joined _ _ c.args.step c.args.goal _ _ _ c.insert-2.result
    (subst (JoinsPaths g.X.Input.PartialEq.eq c.note_head.new.state.nested_goals c.insert.new.self c.args.goal)
    c.from.ensures c.in_ok-insert.ensures.ok) c.insert-2.ensures.ok)
