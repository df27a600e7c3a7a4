-- The words of this crate, from one place.
pub use Rattle.search_context.specs.Graph.{GraphNode, HasEdge, HasGoal, IsCopy, IsProofGraph, IsReached}
pub use Rattle.search_context.specs.Graph.{IsRefutationGraph, IsWalk, original_edge, question_of, walk_kind}
pub use Rattle.search_context.specs.Question.{Overlap, Question}
pub use Rattle.search_context.specs.Rank.{IsPlainValue, IsResultOf}
pub use Rattle.search_context.specs.Run.{AreRepliesTo, IsReplyTo, request_after}
pub use Rattle.search_context.specs.Valid.{goal_node_of, goal_nodes_of}
pub use Rattle.search_context.specs.declared.context.Edge.{Edge}
pub use Rattle.search_context.specs.declared.context.Node.{Node}
pub use Rattle.search_context.specs.declared.context.Reply.{Reply}
pub use Rattle.search_context.specs.declared.context.Reply.TheVariants.{Answer, Begin, Noted}
pub use Rattle.search_context.specs.declared.context.Request.{Request}
pub use Rattle.search_context.specs.declared.context.Request.TheVariants.{Done, EnterCandidate, Evaluate}
pub use Rattle.search_context.specs.declared.context.Request.TheVariants.{FinishCandidate, Ignore}
