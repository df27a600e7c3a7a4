-- What the crates below have, from one place.
pub use Rattle.path_kinds.specs.declared.path.PathKind.TheVariants.{Coinductive}
pub use Rattle.delegate_parts.specs.Outcome.{outcome_verdicts}
pub use Rattle.question_lists.specs.Needs.{Proves, Refutes}
pub use Rattle.question_lists.specs.declared.needs.Needs.{Needs}
pub use Rattle.question_lists.specs.declared.needs.Needs.TheVariants.{All, Any}
pub use Rattle.search_context.specs.Question.{IsWithin, Overlap, Question}
pub use Rattle.search_context.specs.Graph.{GraphNode, IsProofGraph, IsRefutationGraph}
pub use Rattle.search_context.specs.declared.context.Verdict.TheVariants.{Neither, No, Yes}
pub use Rattle.search_rules.specs.Results.{AreDefinite}
pub use Rattle.search_context.specs.Decisive.{IsDecidedKind, IsDecisive}
pub use Rattle.search_context.specs.declared.context.NodeId.{NodeId}
pub use Rattle.graph_nodes.specs.Nodes.{graph_nodes_of}
