-- What the crates below have, from one place.
pub use Rattle.open_graphs.specs.Graph.{cycle_kind, go, IsClosedGraph, Neither, stay, Walk}
pub use Rattle.path_kinds.specs.Path.{rank_of}
pub use Rattle.path_kinds.specs.declared.path.PathKind.{PathKind}
pub use Rattle.path_kinds.specs.declared.path.PathKind.TheVariants.{Coinductive, Inductive}
pub use Rattle.search_context.specs.Graph.{GraphNode, HasEdge, HasGoal, IsCopy, IsProofGraph, IsReached}
pub use Rattle.search_context.specs.Graph.{IsRefutationGraph, IsWalk, original_edge, question_of, walk_kind}
pub use Rattle.search_context.specs.Question.{Question}
pub use Rattle.search_context.specs.Run.{progress_after, questions_answered}
pub use Rattle.search_context.specs.Valid.{goal_node_of, goal_nodes_of, IsRunOfSort, IsValid}
pub use Rattle.search_context.specs.Verdicts.{IsDefinite, verdict_of, Verdicts}
pub use Rattle.search_context.specs.declared.context.Edge.{Edge}
pub use Rattle.search_context.specs.declared.context.Node.{Node}
pub use Rattle.search_context.specs.declared.context.NodeId.{NodeId}
pub use Rattle.search_context.specs.declared.context.Reply.{Reply}
pub use Rattle.search_context.specs.declared.context.Request.{Request}
