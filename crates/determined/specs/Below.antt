-- What the crates below have, from one place.
pub use Rattle.path_kinds.specs.declared.path.PathKind.TheVariants.{Coinductive, ForcedAmbiguity, Inductive, Unknown}
pub use Rattle.path_kinds.specs.declared.path.PathKind.{PathKind}
pub use Rattle.path_kinds.specs.Path.{greater_kind}
pub use Rattle.search_context.specs.Decisive.{AreDecided, IsDecidedKind, IsDecidedReply, IsDecisive}
pub use Rattle.search_context.specs.Delegate.{IsCycleResult}
pub use Rattle.search_context.specs.Graph.{GraphNode, HasEdge, HasGoal, IsGraph, IsProofGraph, IsRefutationGraph}
pub use Rattle.search_context.specs.Graph.{IsReached, IsWalk, question_of, walk_kind}
pub use Rattle.search_context.specs.Question.{IsWithin, Overlap, Question}
pub use Rattle.search_context.specs.Rank.{AsksOnly}
pub use Rattle.search_context.specs.Run.{Asked, EndsIn, IsFitting, IsInOrder, IsOrderly, IsReplyTo, Progress}
pub use Rattle.search_context.specs.Run.{fault_after, is_counted, open_candidate, progress_after, progress_with}
pub use Rattle.search_context.specs.Run.{questions_answered, request_after}
pub use Rattle.search_context.specs.Verdicts.{IsDefinite, Verdicts, verdicts}
pub use Rattle.search_context.specs.declared.context.Edge.{Edge}
pub use Rattle.search_context.specs.declared.context.Reply.{Reply}
pub use Rattle.search_context.specs.declared.context.Reply.TheVariants.{Answer, Begin, Noted}
pub use Rattle.search_context.specs.declared.context.Request.{Request}
pub use Rattle.search_context.specs.declared.context.Request.TheVariants.{Done, EnterCandidate, Evaluate}
pub use Rattle.search_context.specs.declared.context.Request.TheVariants.{FinishCandidate, Ignore}
pub use Rattle.evaluations.specs.Enclosed.{NoQuestionLeadsOut}
