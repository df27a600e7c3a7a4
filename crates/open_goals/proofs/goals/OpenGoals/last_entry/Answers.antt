use Rattle.open_goals.proofs.Changes.{newest_entry, some_entries}
use Rattle.open_goals.proofs.goals.OpenGoals.last_entry.Goals as goal

pub last-requires : goal.last-requires
last-requires g c = record {
  some = some_entries c.self.inside.stack c.self.inside.runs.items _ c.self.invariant c.self.view_is c.requires;
}

pub returns : goal.returns
returns g c = newest_entry c.self.inside.stack c.self.inside.runs.items _ c.self.invariant c.self.view_is
    c.requires c.last.result.now c.last.ensures
