-- What the crates below have, from one place.
pub use Rattle.path_kinds.specs.declared.path.PathKind.{PathKind}
pub use Rattle.path_kinds.specs.declared.path.PathKind.TheVariants.{Coinductive, ForcedAmbiguity, Inductive, Unknown}
pub use Rattle.delegate_parts.specs.Outcome.{word_of}
pub use Rattle.delegate_parts.specs.declared.outcome.Outcome.{Outcome}
pub use Rattle.proof_trees.specs.Text.{WordsOf}
pub use Rattle.rule_tables.specs.Rules.{name_of}
pub use Rattle.rule_tables.specs.declared.rules.Goal.{Goal}
pub use Rattle.rule_tables.specs.declared.rules.Rules.{Rules}
