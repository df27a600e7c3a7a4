use Rattle.std.proofs.Common.{ℕ, ◌<◌}
use Rattle.graph_check.specs.Below.{Edge, HasEdge, HasGoal, goal_nodes_of}
use Rattle.graph_check.proofs.targets.are_closed.Given as goal

-- the edges of each node so far reach their goals
abbrev pub invariant-loop-node : goal.invariant-loop-node
invariant-loop-node g l =
    (at : ℕ) (e : Edge _) → at < l.node-index → HasEdge (goal_nodes_of l.nodes) at e
    → HasGoal (goal_nodes_of l.nodes) e.target e.input
