use Rattle.std.proofs.Common.{arith}
use Rattle.program_ends.proofs.Stops.{broken_by_status, done_by_status, fault_by_status, status_in_range}
use Rattle.program_ends.proofs.Stops.{told_by_status}
use Rattle.rule_tables.proofs.Stops.{bad_line_by_status}
use Rattle.table_runs.proofs.program.run_with.Goals as goal

pub returns-clause-status : goal.returns-clause-status
returns-clause-status g c = status_in_range c.answer_input-came.result _ c.status_told.ensures

pub returns-clause-told : goal.returns-clause-told
returns-clause-told g c =
    told_by_status _ c.answer_input-came.result _ c.status_told.ensures c.answer_input-came.ensures.told

pub returns-clause-bad_line : goal.returns-clause-bad_line
returns-clause-bad_line g c =
    bad_line_by_status _ c.answer_input-came.result _ c.status_told.ensures c.answer_input-came.ensures.bad_line

pub returns-clause-nothing_written : goal.returns-clause-nothing_written
returns-clause-nothing_written g c =
    fault_by_status _ c.answer_input-came.result _ c.status_told.ensures
    (λ fault e. c.answer_input-came.ensures.nothing_written fault.number e)

pub returns-clause-beginning : goal.returns-clause-beginning
returns-clause-beginning g c =
    λ high. broken_by_status _ c.answer_input-came.result _ c.status_told.ensures c.answer_input-came.ensures.beginning
    (omega (arith, high))

pub returns-clause-flushed : goal.returns-clause-flushed
returns-clause-flushed g c =
    done_by_status _ c.answer_input-came.result _ c.status_told.ensures c.answer_input-came.ensures.flushed
