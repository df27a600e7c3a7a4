-- What the crates below have, from one place.
pub use Rattle.path_kinds.specs.declared.path.PathKind.{PathKind}
pub use Rattle.delegate_parts.specs.Outcome.{is_no, is_yes}
pub use Rattle.delegate_parts.specs.declared.outcome.Outcome.{Outcome}
pub use Rattle.delegate_parts.specs.declared.outcome.Outcome.TheVariants.{Maybe, No, Overflow, Yes}
pub use Rattle.search_context.specs.Question.{IsWithin, Overlap, Question}
pub use Rattle.search_context.specs.Run.{Asked, EndsIn, Fits, is_counted, is_ignored, IsFitting}
pub use Rattle.search_context.specs.Run.{open_candidate, Progress}
pub use Rattle.search_context.specs.Run.{progress_after, progress_with, questions_answered, request_after}
pub use Rattle.search_context.specs.declared.context.Reply.{Reply}
pub use Rattle.search_context.specs.declared.context.Reply.TheVariants.{Answer, Begin, Noted}
pub use Rattle.search_context.specs.declared.context.Request.{Request}
pub use Rattle.search_context.specs.declared.context.Request.TheVariants.{Done, EnterCandidate}
pub use Rattle.search_context.specs.declared.context.Request.TheVariants.{Evaluate, FinishCandidate}
pub use Rattle.search_context.specs.declared.context.Request.TheVariants.{Ignore}
