use Rattle.open_goals.proofs.NestedGoals.{goals_joined}
use Rattle.open_goals.proofs.update.note_nested_goals.Goals as goal

pub returns-clause-taken : goal.returns-clause-taken
returns-clause-taken g c = goals_joined _ _ _ _ _ _ _ c.insert.result _ c.if-is_empty.false c.is_empty.ensures.1
    c.in_ok-extend_from_child.ensures.ok c.insert.ensures.ok
