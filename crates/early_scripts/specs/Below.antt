-- What the crates below have, from one place.
pub use Rattle.delegate_parts.specs.Outcome.{is_no, is_yes}
pub use Rattle.delegate_parts.specs.declared.outcome.Outcome.{Outcome}
pub use Rattle.delegate_parts.specs.declared.outcome.Outcome.TheVariants.{Maybe, No, Overflow, Yes}
pub use Rattle.rule_tables.specs.Rules.{candidates_of, Proves, question_of, Refutes}
pub use Rattle.rule_tables.specs.declared.delegate.Table.{Table}
pub use Rattle.rule_tables.specs.declared.rules.Asking.{Asking}
pub use Rattle.rule_tables.specs.Candidate.{Candidate}
pub use Rattle.rule_tables.specs.declared.rules.Goal.{Goal}
pub use Rattle.rule_tables.specs.declared.rules.Rules.{Rules}
pub use Rattle.search_context.specs.Run.{Asked, EndsIn, Fits, is_counted, IsFitting, no_progress, Progress}
pub use Rattle.search_context.specs.Run.{progress_after, progress_with, questions_answered, request_after}
pub use Rattle.search_context.specs.declared.context.Reply.{Reply}
pub use Rattle.search_context.specs.declared.context.Reply.TheVariants.{Answer, Begin, Noted}
pub use Rattle.search_context.specs.declared.context.Request.{Request}
pub use Rattle.search_context.specs.declared.context.Request.TheVariants.{Done, Evaluate}
