use Rattle.std.proofs.Common.{All, [], map, take}
use Rattle.graph_words.proofs.writing.words_of_nodes.Given as goal
use Rattle.graph_words.specs.Words.{IsNode, PutsWords, list_words, node_words, plain_node}

-- so many are written
abbrev pub invariant-loop-node : goal.invariant-loop-node
invariant-loop-node l = record {
  written : PutsWords [] l.words.items
      (λ rest. list_words node_words (map plain_node (take l.node-index l.nodes)) rest);
  in_range : All IsNode (map plain_node (take l.node-index l.nodes));
}
