-- What the crates below have, from one place.
pub use Rattle.path_kinds.specs.declared.memory.NoMemory.{NoMemory}
pub use Rattle.path_kinds.specs.declared.path.PathKind.{PathKind}
pub use Rattle.search_context.specs.Delegate.{CanTake, CountsOne, Steps}
pub use Rattle.search_context.specs.declared.context.Reply.{Reply}
pub use Rattle.search_context.specs.declared.context.Reply.TheVariants.{Answer}
pub use Rattle.search_context.specs.declared.context.Request.{Request}
pub use Rattle.search_context.specs.declared.context.Request.TheVariants.{Done, EnterCandidate, Evaluate}
pub use Rattle.search_context.specs.declared.context.Request.TheVariants.{FinishCandidate, Ignore}
