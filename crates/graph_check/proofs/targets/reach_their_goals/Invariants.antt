use Rattle.std.proofs.Common.{All, take}
use Rattle.graph_check.specs.Below.{HasGoal, goal_nodes_of}
use Rattle.graph_check.proofs.targets.reach_their_goals.Given as goal

-- each edge so far reaches its goal
abbrev pub invariant-loop-edge : goal.invariant-loop-edge
invariant-loop-edge g l = All (λ e. HasGoal (goal_nodes_of l.nodes) e.target e.input) (take l.edge-index l.edges)
