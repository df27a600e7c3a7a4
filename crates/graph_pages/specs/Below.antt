-- What the crates below have, from one place.
pub use Rattle.delegate_parts.specs.declared.outcome.Outcome.{Outcome}
pub use Rattle.delegate_parts.specs.declared.outcome.Outcome.TheVariants.{Maybe, No, Overflow, Yes}
pub use Rattle.delegate_parts.specs.Outcome.{word_of}
pub use Rattle.rule_tables.specs.Rules.{candidates_of, name_of, names_of, number_of, questions_of}
pub use Rattle.rule_tables.specs.Text.{IsFirstBadLine, Reads}
pub use Rattle.rule_tables.specs.declared.rules.Goal.{Goal}
pub use Rattle.rule_tables.specs.declared.rules.Rules.{Rules}
pub use Rattle.search_context.specs.Graph.{IsReached}
pub use Rattle.search_context.specs.Rank.{IsPlainTo, IsPlainValue}
pub use Rattle.search_context.specs.Valid.{goal_nodes_of, IsValidFor}
pub use Rattle.search_context.specs.Verdicts.{verdicts, Verdicts}
pub use Rattle.search_context.specs.declared.context.Fault.{Fault as SearchFault}
pub use Rattle.search_context.specs.declared.context.Fault.TheVariants.{Memory}
pub use Rattle.search_context.specs.declared.context.Node.{Node}
pub use Rattle.search_context.specs.declared.context.Reply.{Reply}
pub use Rattle.search_context.specs.declared.context.Request.{Request}
pub use Rattle.search_context.specs.declared.context.Verdict.{Verdict}
pub use Rattle.search_context.specs.declared.context.Cx.{Ghosts as CxOf}
pub use Rattle.search_context.specs.declared.context.Delegate.{Ghosts as DelegateOf}
pub use Rattle.rule_tables.specs.declared.delegate.Table.{Table}
