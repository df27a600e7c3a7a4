-- What the crates below have, from one place.
pub use Rattle.strong_components.specs.Components.{AreComponents, HasStep, Reaches, StaysInside, successor_lists}
pub use Rattle.strong_components.specs.Components.Reaches.{go, stay}
pub use Rattle.path_kinds.specs.declared.path.PathKind.TheVariants.{Coinductive, ForcedAmbiguity, Inductive}
pub use Rattle.path_kinds.specs.declared.path.PathKind.{PathKind}
pub use Rattle.path_kinds.specs.Path.{rank_of}
pub use Rattle.search_context.specs.Graph.{GraphNode, HasEdge, HasGoal, IsGraph, IsProofGraph}
pub use Rattle.search_context.specs.Graph.{IsRefutationGraph, IsWalk}
pub use Rattle.search_context.specs.Graph.{question_of, walk_kind}
pub use Rattle.search_context.specs.Question.{Question}
pub use Rattle.search_context.specs.Run.{Asked, counted_by, fault_after, Fits, ignored_by, is_counted}
pub use Rattle.search_context.specs.Run.{is_ignored, IsFitting}
pub use Rattle.search_context.specs.Run.{IsInOrder}
pub use Rattle.search_context.specs.Run.{open_candidate, order_fault, Progress, progress_after, progress_with}
pub use Rattle.search_context.specs.Run.{questions_answered, request_after}
pub use Rattle.search_context.specs.Verdicts.{verdicts, Verdicts}
pub use Rattle.search_context.specs.Valid.{AreClosed, CyclesHaveKind, goal_node_of, goal_nodes_of, IsRunOfSort, IsValid}
pub use Rattle.search_context.specs.Valid.{IsValidFor}
pub use Rattle.search_context.specs.declared.context.Edge.{Edge}
pub use Rattle.search_context.specs.declared.context.Node.{Node}
pub use Rattle.search_context.specs.declared.context.Reply.{Reply}
pub use Rattle.search_context.specs.declared.context.Reply.TheVariants.{Answer, Begin, Noted}
pub use Rattle.search_context.specs.declared.context.Request.{Request}
pub use Rattle.search_context.specs.declared.context.Request.TheVariants.{Done, EnterCandidate}
pub use Rattle.search_context.specs.declared.context.Request.TheVariants.{Evaluate, FinishCandidate}
pub use Rattle.search_context.specs.declared.context.Request.TheVariants.{Ignore}
pub use Rattle.search_context.specs.declared.context.Verdict.{Verdict}
pub use Rattle.search_context.specs.declared.context.Verdict.TheVariants.{Neither, No, Yes}
