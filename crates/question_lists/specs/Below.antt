-- What the crates below have, from one place.
pub use Rattle.path_kinds.specs.declared.path.PathKind.{PathKind}
pub use Rattle.path_kinds.specs.declared.path.PathKind.TheVariants.{Coinductive, ForcedAmbiguity, Inductive, Unknown}
pub use Rattle.path_kinds.specs.Path.{greater_kind}
pub use Rattle.delegate_parts.specs.Outcome.{is_no, is_yes, outcome_verdicts}
pub use Rattle.delegate_parts.specs.declared.outcome.Outcome.{Outcome}
pub use Rattle.delegate_parts.specs.declared.outcome.Outcome.TheVariants.{Maybe, No, Overflow, Yes}
pub use Rattle.search_context.specs.Decisive.{AreDecided, IsDecidedKind, IsDecisive}
pub use Rattle.search_context.specs.Graph.{GraphNode, HasEdge, HasGoal, IsGraph, IsProofGraph, IsReached}
pub use Rattle.search_context.specs.Graph.{IsRefutationGraph, IsWalk, question_of, walk_kind}
pub use Rattle.search_context.specs.Question.{IsWithin, Overlap, Question}
pub use Rattle.search_context.specs.Rank.{IsOrderlyTo, IsPlainTo, IsPlainValue, IsRanked, IsResultOf}
pub use Rattle.search_context.specs.Run.{AreRepliesTo, Asked, EndsIn, IsFitting, IsReplyTo, is_counted, Progress}
pub use Rattle.search_context.specs.Run.{IsOrderly, order_fault, progress_after, progress_with, questions_answered}
pub use Rattle.search_context.specs.Run.{request_after}
pub use Rattle.search_context.specs.Verdicts.{IsDefinite}
pub use Rattle.search_context.specs.declared.context.Edge.{Edge}
pub use Rattle.search_context.specs.declared.context.Reply.{Reply}
pub use Rattle.search_context.specs.declared.context.Reply.TheVariants.{Answer, Begin, Noted}
pub use Rattle.search_context.specs.declared.context.Request.{Request}
pub use Rattle.search_context.specs.declared.context.Request.TheVariants.{Done, Evaluate}
