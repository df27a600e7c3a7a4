use Rattle.std.proofs.Common.{◌≡◌, take}
use Rattle.graph_check.specs.Below.{goal_nodes_of, successor_lists}
use Rattle.graph_check.specs.Words.{steps_over}
use Rattle.graph_check.proofs.cycles.steps_up_to.Given as goal

-- the steps from each node so far
abbrev pub invariant-loop-node : goal.invariant-loop-node
invariant-loop-node g l = successor_lists l.steps.items ≡ steps_over l.most (goal_nodes_of (take l.node-index l.nodes))
