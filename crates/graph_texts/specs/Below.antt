-- What the crates below have, from one place.
pub use Rattle.delegate_parts.specs.declared.outcome.Outcome.{Outcome}
pub use Rattle.delegate_parts.specs.Outcome.{is_no, is_yes, word_of}
pub use Rattle.path_kinds.specs.declared.path.PathKind.{PathKind}
pub use Rattle.rule_tables.specs.Candidate.{Candidate}
pub use Rattle.rule_tables.specs.Frame.{script_of}
pub use Rattle.rule_tables.specs.Rules.{candidates_of, names_of, number_of}
pub use Rattle.rule_tables.specs.declared.rules.Asking.{Asking}
pub use Rattle.rule_tables.specs.declared.rules.Goal.{Goal}
pub use Rattle.rule_tables.specs.declared.rules.Rules.{Rules}
pub use Rattle.search_context.specs.Graph.{HasEdge}
pub use Rattle.search_context.specs.Valid.{goal_nodes_of, IsValid, IsValidFor}
pub use Rattle.search_context.specs.declared.context.Edge.{Edge}
pub use Rattle.search_context.specs.declared.context.Node.{Node}
pub use Rattle.search_context.specs.declared.context.Reply.{Reply}
pub use Rattle.search_context.specs.declared.context.Request.{Request}
pub use Rattle.path_kinds.specs.declared.path.PathKind.TheVariants.{Coinductive, Inductive}
