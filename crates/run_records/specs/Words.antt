-- The words of this crate, from one place.
pub use Rattle.run_records.specs.Progress.{Agrees, answered, answers_after, answers_with, asked_in, asked_of}
pub use Rattle.run_records.specs.Progress.{asked_with, begun, done_in, edge_to, edges_of, fault_of, going_on}
pub use Rattle.run_records.specs.Progress.{is_in_candidate, is_same_verdict, IsEdgeOfAnswer, IsReplySorted}
pub use Rattle.run_records.specs.Progress.{IsSortedAs, KeepsAnswer, no_record, open_number, received, Records}
pub use Rattle.run_records.specs.Progress.{replies_of, requested, rests_on, RunRecord}
pub use Rattle.run_records.specs.Nodes.{HasRunNodes, HasTarget}
pub use Rattle.run_records.specs.Steps.{IsRunFault, IsVerdict, RunOutOfOrder, RunSteps}
pub use Rattle.run_records.specs.declared.runs.Run.{Run}
