use Rattle.std.proofs.Common.{map, take, ◌≡◌}
use Rattle.graph_words.proofs.reading.goals_of.Given as goal
use Rattle.graph_words.specs.Words.{goals_of, plain_node}

-- those of the first nodes
abbrev pub invariant-loop-node : goal.invariant-loop-node
invariant-loop-node l = l.goals.items ≡ goals_of (map plain_node (take l.node-index l.nodes))
