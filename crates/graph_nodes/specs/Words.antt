-- The words of this crate, from one place.
pub use Rattle.graph_nodes.specs.Nodes.{AreRuns, CacheNode, ended_run, EndedRun, finished_node, goal_if_open, gone_node}
pub use Rattle.graph_nodes.specs.Nodes.{graph_node_of, graph_nodes_of, IsNodeOf, IsRun, KeepsFinished, KeepsGoals}
pub use Rattle.graph_nodes.specs.Nodes.{KeepsNodes, open_goal, open_node, WasAsked, with_run}
pub use Rattle.graph_nodes.specs.Collected.{AreLive, Collected, StayBefore, with_root}
pub use Rattle.graph_nodes.specs.Forgotten.{is_among, KeepsOtherNodes}
pub use Rattle.graph_nodes.specs.Definite.{HasGraph, HasNode}
pub use Rattle.graph_nodes.specs.Found.{ArePlaced, Finds}
pub use Rattle.graph_nodes.specs.HandedOut.{Copies, IsCopyFrom, IsWhole, KeepsWhole, original_node}
pub use Rattle.graph_nodes.specs.Held.{AreHeld, HasNumber, is_held, IsGone, IsRising, IsSplit, IsWindow, node_if_held}
pub use Rattle.graph_nodes.specs.Held.{nodes_below, nodes_of, slot_at}
pub use Rattle.graph_nodes.specs.Marked.{AreMarked, AreNone, AreWaiting, edges_of, IsClosed, IsFound, IsMarked, kept}
pub use Rattle.graph_nodes.specs.Marked.{Marks, MarksFrom, targets_of, unmarked}
pub use Rattle.graph_nodes.specs.Marked.IsFound.{root, next}
pub use Rattle.graph_nodes.specs.Shown.{AreEarlier, Forgets, ForgetsSome, is_before, is_forgotten, IsShownFrom, shown}
pub use Rattle.graph_nodes.specs.Shapes.{edge_shape, HasGrown, run_shape, shape_of, shapes_of}
pub use Rattle.graph_nodes.specs.View.{ended_node, node_of, run_of}
pub use Rattle.graph_nodes.specs.declared.node_list.Held.{Held}
pub use Rattle.graph_nodes.specs.declared.node_list.Slot.{Slot}
pub use Rattle.graph_nodes.specs.declared.node_list.Slot.TheVariants.{Finished, Open}
