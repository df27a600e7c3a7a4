-- What the crates below have, from one place.
pub use Rattle.path_kinds.specs.declared.path.PathKind.{PathKind}
pub use Rattle.path_kinds.specs.declared.path.PathKind.TheVariants.{Coinductive, Inductive}
pub use Rattle.graph_nodes.specs.Nodes.{graph_nodes_of}
pub use Rattle.question_lists.specs.Derivations.{Derives, IsDerivable, IsNotCoinductive, derive}
pub use Rattle.question_lists.specs.Needs.{Proves, Refutes}
pub use Rattle.question_lists.specs.declared.needs.Needs.{Needs}
pub use Rattle.question_lists.specs.declared.needs.Needs.TheVariants.{All, Any}
pub use Rattle.search_context.specs.Graph.{GraphNode, IsProofGraph, IsRefutationGraph}
pub use Rattle.search_context.specs.Question.{Question}
pub use Rattle.search_context.specs.declared.context.NodeId.{NodeId}
pub use Rattle.search_context.specs.declared.context.Verdict.TheVariants.{No, Yes}
