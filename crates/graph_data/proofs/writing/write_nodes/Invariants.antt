use Rattle.std.proofs.Common.{◌∷◌, codes, map, take}
use Rattle.json.specs.Token.{begin_array, key}
use Rattle.graph_data.proofs.writing.write_nodes.Given as goal
use Rattle.graph_data.specs.Below.{names_of}
use Rattle.graph_data.specs.Data.{node_tokens, HaveTexts, list_tokens, plain_node, PutsTokens}

-- so many are written
abbrev pub invariant-loop-node : goal.invariant-loop-node
invariant-loop-node l = HaveTexts (names_of l.rules) → PutsTokens l.fn.writer l.writer (λ rest. key (codes "nodes")
    ∷ begin_array ∷ list_tokens (node_tokens (names_of l.rules)) (map plain_node (take l.node-index l.nodes)) rest)
