-- What the crates below have, from one place.
pub use Rattle.path_kinds.specs.Path.{rank_of}
pub use Rattle.path_kinds.specs.declared.path.PathKind.{PathKind}
pub use Rattle.search_context.specs.Delegate.{IsNeither, Steps}
pub use Rattle.search_context.specs.Run.{counted_by, Fits, IsFitting, order_fault, progress_after, request_after}
pub use Rattle.search_context.specs.Verdicts.{verdict_of, Verdicts, verdicts}
pub use Rattle.search_context.specs.declared.context.Cx.{Ghosts as CxOf}
pub use Rattle.search_context.specs.declared.context.Delegate.{Ghosts as DelegateOf}
pub use Rattle.search_context.specs.declared.context.Edge.{Edge}
pub use Rattle.search_context.specs.declared.context.NodeId.{NodeId}
pub use Rattle.search_context.specs.declared.context.Reply.{Reply}
pub use Rattle.search_context.specs.declared.context.Reply.TheVariants.{Answer, Begin, Noted}
pub use Rattle.search_context.specs.declared.context.Request.{Request}
pub use Rattle.search_context.specs.declared.context.Request.TheVariants.{Done, EnterCandidate, Evaluate}
pub use Rattle.search_context.specs.declared.context.Request.TheVariants.{FinishCandidate, Ignore}
pub use Rattle.search_context.specs.declared.context.Verdict.{Verdict}
pub use Rattle.search_context.specs.declared.context.Verdict.TheVariants.{Neither, No, Yes}
pub use Rattle.graph_nodes.specs.Nodes.{CacheNode, EndedRun, IsNodeOf, IsRun}
pub use Rattle.graph_nodes.specs.Shapes.{shapes_of}
pub use Rattle.run_records.specs.Progress.{CameTo, edge_to, edges_of, fault_of, IsEdgeOfAnswer, IsReplySorted}
pub use Rattle.run_records.specs.Progress.{KeepsAnswer, no_record, received, Records, requested, RunRecord}
pub use Rattle.run_records.specs.Steps.{IsVerdict}
pub use Rattle.run_records.specs.declared.progress.DefiniteAnswer.{DefiniteAnswer}
pub use Rattle.run_records.specs.declared.runs.Received.{Received}
