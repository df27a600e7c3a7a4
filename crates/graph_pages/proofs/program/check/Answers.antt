use Rattle.graph_pages.proofs.Ends.{bad_data_by_status, status_in_range, told_by_status}
use Rattle.graph_pages.proofs.program.check.Goals as goal

pub returns-clause-status : goal.returns-clause-status
returns-clause-status g c = status_in_range c.check_input-came.result _ c.status_told.ensures

pub returns-clause-told : goal.returns-clause-told
returns-clause-told g c =
    told_by_status _ c.check_input-came.result _ c.status_told.ensures c.check_input-came.ensures.told

pub returns-clause-bad_data : goal.returns-clause-bad_data
returns-clause-bad_data g c = λ two.
    (bad_data_by_status _ _ _ c.check_input-came.result _ c.status_told.ensures c.check_input-came.ensures.ended two).0

pub returns-clause-nothing_written : goal.returns-clause-nothing_written
returns-clause-nothing_written g c = λ two.
    (bad_data_by_status _ _ _ c.check_input-came.result _ c.status_told.ensures c.check_input-came.ensures.ended two).1
