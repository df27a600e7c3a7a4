use Rattle.std.proofs.Common.{drop, map, take, ◌++◌, ◌≡◌}
use Rattle.graph_words.proofs.reading.nodes_of_words.Given as goal
use Rattle.graph_words.specs.Words.{named_node, plain_node}

-- the edges of the first nodes have their targets' goals
abbrev pub invariant-loop-node : goal.invariant-loop-node
invariant-loop-node l = map plain_node l.node-items
    ≡ map (named_node l.goals.items) (take l.node-index (map plain_node l.initial.node-items))
    ++ drop l.node-index (map plain_node l.initial.node-items)
