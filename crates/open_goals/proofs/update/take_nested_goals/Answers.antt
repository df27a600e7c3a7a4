use Rattle.open_goals.proofs.NestedGoals.{goals_joined}
use Rattle.open_goals.proofs.update.take_nested_goals.Goals as goal

pub returns-clause-taken : goal.returns-clause-taken
returns-clause-taken g c = goals_joined _ _ _ _ _ _ _ c.insert.result _ c.if-is_empty-2.false c.is_empty-2.ensures.1
    c.in_ok-take_from_child.ensures.ok c.insert.ensures.ok
