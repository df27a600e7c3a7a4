-- What the crates below have, from one place.
pub use Rattle.search_context.specs.Graph.{IsProofGraph, IsRefutationGraph}
pub use Rattle.search_context.specs.Verdicts.{verdicts}
pub use Rattle.search_context.specs.declared.context.NodeId.{NodeId}
pub use Rattle.graph_nodes.specs.Nodes.{AreRuns, CacheNode, graph_nodes_of, IsNodeOf, KeepsFinished, KeepsGoals}
pub use Rattle.graph_nodes.specs.Definite.{HasGraph}
pub use Rattle.graph_nodes.specs.Shapes.{shapes_of}
