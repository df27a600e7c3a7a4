use Rattle.std.proofs.Common.{All, length, map, ◌≡◌}
use Rattle.graph_words.proofs.reading.read_nodes.Given as goal
use Rattle.graph_words.specs.Words.{IsNode, left_in, list_words, node_words, plain_node}

-- the nodes so far are read
abbrev pub invariant-loop-source : goal.invariant-loop-source
invariant-loop-source l = record {
  spelled : l.words ≡ list_words node_words (map plain_node l.nodes.items) (left_in l.source);
  in_range : All IsNode (map plain_node l.nodes.items);
}

abbrev pub decreases-loop-source : goal.decreases-loop-source
decreases-loop-source l = length (left_in l.source)
