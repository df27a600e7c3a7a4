-- What the crates below have, from one place.
pub use Rattle.graph_nodes.specs.Collected.{AreLive, Collected, StayBefore, with_root}
pub use Rattle.graph_nodes.specs.Definite.{HasGraph}
pub use Rattle.graph_nodes.specs.HandedOut.{IsCopyFrom, IsWhole}
pub use Rattle.graph_nodes.specs.Held.{is_held}
pub use Rattle.graph_nodes.specs.Nodes.{AreRuns, CacheNode, ended_run, EndedRun, finished_node, IsRun, KeepsFinished}
pub use Rattle.graph_nodes.specs.Nodes.{KeepsGoals, KeepsNodes, open_goal, open_node, with_run}
pub use Rattle.graph_nodes.specs.Shapes.{HasGrown, shapes_of}
pub use Rattle.graph_nodes.specs.View.{ended_node, run_of}
pub use Rattle.open_graphs.specs.Graph.{Grown}
pub use Rattle.path_kinds.specs.declared.path.PathKind.TheVariants.{Coinductive, Inductive}
pub use Rattle.search_context.specs.Rank.{IsBelowRank, IsPlain, IsPlainTo}
pub use Rattle.search_context.specs.Valid.{IsValid}
pub use Rattle.search_context.specs.Verdicts.{Verdicts, verdicts}
pub use Rattle.search_context.specs.declared.context.Fault.{Fault}
pub use Rattle.search_context.specs.declared.context.Fault.TheVariants.{Conflict, Memory}
pub use Rattle.search_context.specs.declared.context.Node.{Node}
pub use Rattle.search_context.specs.declared.context.NodeId.{NodeId}
pub use Rattle.search_context.specs.declared.context.Reply.{Reply}
pub use Rattle.search_context.specs.declared.context.Request.{Request}
pub use Rattle.goal_paths.specs.Nested.{NestedPaths}
pub use Rattle.search_stack.specs.declared.result.EvaluationResult.{EvaluationResult}
