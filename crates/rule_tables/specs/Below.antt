-- What the crates below have, from one place.
pub use Rattle.path_kinds.specs.declared.path.PathKind.{PathKind}
pub use Rattle.path_kinds.specs.declared.path.PathKind.TheVariants.{Coinductive, ForcedAmbiguity, Inductive, Unknown}
pub use Rattle.delegate_parts.specs.declared.outcome.Outcome.{Outcome}
pub use Rattle.search_context.specs.Question.{Question}
pub use Rattle.search_context.specs.declared.context.Reply.{Reply}
pub use Rattle.search_context.specs.declared.context.Reply.TheVariants.{Answer, Begin, Noted}
pub use Rattle.search_context.specs.declared.context.Request.{Request}
pub use Rattle.search_context.specs.declared.context.Request.TheVariants.{Done, EnterCandidate}
pub use Rattle.search_context.specs.declared.context.Request.TheVariants.{Evaluate, FinishCandidate}
pub use Rattle.search_context.specs.declared.context.Request.TheVariants.{Ignore}
