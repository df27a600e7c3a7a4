-- What the crates below have, from one place.
pub use Rattle.path_kinds.specs.declared.path.PathKind.{PathKind}
pub use Rattle.search_context.specs.Delegate.{CountsOne}
pub use Rattle.search_context.specs.Rank.{AsksOnly, HasNoRank, IsBelowRank, IsPlain, IsPlainTo}
pub use Rattle.search_context.specs.Rank.{IsPlainValue}
unfoldable pub use Rattle.search_context.specs.Rank.{frames_within}
pub use Rattle.search_context.specs.Run.{fault_after, AreRepliesTo, IsFitting, IsOrderly, IsReplyTo}
pub use Rattle.search_context.specs.Run.{request_after}
pub use Rattle.search_context.specs.declared.context.Reply.{Reply}
pub use Rattle.search_context.specs.declared.context.Reply.TheVariants.{Answer, Begin, Noted}
pub use Rattle.search_context.specs.declared.context.Request.{Request}
pub use Rattle.search_context.specs.declared.context.Request.TheVariants.{Done, EnterCandidate}
pub use Rattle.search_context.specs.declared.context.Request.TheVariants.{Evaluate, FinishCandidate}
pub use Rattle.search_context.specs.declared.context.Request.TheVariants.{Ignore}
