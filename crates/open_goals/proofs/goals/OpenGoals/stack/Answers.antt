use Rattle.open_goals.proofs.OldestFirst.{entries_of_view}
use Rattle.open_goals.proofs.goals.OpenGoals.stack.Goals as goal

pub returns : goal.returns
returns g c = entries_of_view c.self.inside.stack c.self.inside.runs.items _ c.self.invariant c.self.view_is
