-- What the crates below have, from one place.
pub use Rattle.path_kinds.specs.declared.path.PathKind.TheVariants.{Inductive}
pub use Rattle.delegate_parts.specs.declared.outcome.Outcome.{Outcome}
pub use Rattle.delegate_parts.specs.declared.outcome.Outcome.TheVariants.{No, Yes}
pub use Rattle.question_lists.specs.declared.needs.Needs.{Needs}
pub use Rattle.question_lists.specs.declared.needs.Needs.TheVariants.{All as NeedsAll, Any as NeedsAny}
pub use Rattle.search_context.specs.Question.{Question}
pub use Rattle.search_context.specs.Rank.{IsPlainTo, IsPlainValue}
