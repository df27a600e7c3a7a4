use Rattle.program_ends.proofs.Stops.{broken_by_status, status_in_range, told_by_status}
use Rattle.conversations.proofs.Statuses.{never_two}
use Rattle.conversations.proofs.program.converse_with.Goals as goal

pub returns-clause-status : goal.returns-clause-status
returns-clause-status g c = status_in_range c.hold-came.result _ c.status_told.ensures

pub returns-clause-never_two : goal.returns-clause-never_two
returns-clause-never_two g c = never_two c.hold-came.result _ c.status_told.ensures c.hold-came.ensures.fault

pub returns-clause-held : goal.returns-clause-held
returns-clause-held g c = told_by_status _ c.hold-came.result _ c.status_told.ensures c.hold-came.ensures.held

pub returns-clause-broken_off : goal.returns-clause-broken_off
returns-clause-broken_off g c =
    broken_by_status _ c.hold-came.result _ c.status_told.ensures c.hold-came.ensures.broken_off
