-- What the crates below have, from one place.
pub use Rattle.path_kinds.specs.declared.path.PathKind.{PathKind}
pub use Rattle.path_kinds.specs.declared.path.PathKind.TheVariants.{Coinductive, ForcedAmbiguity, Inductive, Unknown}
pub use Rattle.search_context.specs.Delegate.{CanTake, CountsOne, IsCycleResult, IsNeither, Steps}
pub use Rattle.search_context.specs.Question.{IsWithin, Overlap, Question}
pub use Rattle.search_context.specs.Run.{EndsIn, progress_after, questions_answered}
pub use Rattle.search_context.specs.Verdicts.{Verdicts}
