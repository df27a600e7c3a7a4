-- What the crates below have, from one place.
pub use Rattle.cycle_heads.specs.Candidates.{UsagesByHead}
pub use Rattle.path_kinds.specs.declared.path.PathKind.{PathKind}
pub use Rattle.search_context.specs.Delegate.{CanTake, Steps}
pub use Rattle.search_context.specs.Graph.{question_of}
pub use Rattle.search_context.specs.Question.{Question}
pub use Rattle.search_context.specs.Run.{Asked, Fits, IsFitting, IsInOrder, Progress, counted_by, fault_after}
pub use Rattle.search_context.specs.Run.{ignored_by, is_counted, is_ignored, open_candidate, order_fault}
pub use Rattle.search_context.specs.Run.{progress_after, progress_with, questions_answered, request_after}
pub use Rattle.search_context.specs.Verdicts.{Verdicts, verdicts}
pub use Rattle.search_context.specs.declared.context.Cx.{Ghosts as CxOf}
pub use Rattle.search_context.specs.declared.context.Delegate.{Ghosts as DelegateOf}
pub use Rattle.search_context.specs.declared.context.Edge.{Edge}
pub use Rattle.search_context.specs.declared.context.Fault.{Fault}
pub use Rattle.search_context.specs.declared.context.Fault.TheVariants.{Memory, Protocol}
pub use Rattle.search_context.specs.declared.context.NodeId.{NodeId}
pub use Rattle.search_context.specs.declared.context.Reply.{Reply}
pub use Rattle.search_context.specs.declared.context.Reply.TheVariants.{Answer, Begin, Noted}
pub use Rattle.search_context.specs.declared.context.Request.{Request}
pub use Rattle.search_context.specs.declared.context.Request.TheVariants.{Done, EnterCandidate, Evaluate}
pub use Rattle.search_context.specs.declared.context.Request.TheVariants.{FinishCandidate, Ignore}
pub use Rattle.search_context.specs.declared.context.Verdict.{Verdict}
pub use Rattle.search_context.specs.declared.context.Verdict.TheVariants.{Neither, No, Yes}
