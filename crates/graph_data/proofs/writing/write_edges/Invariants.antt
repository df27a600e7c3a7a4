use Rattle.std.proofs.Common.{◌∷◌, codes, take}
use Rattle.json.specs.Token.{begin_array, key}
use Rattle.graph_data.proofs.writing.write_edges.Given as goal
use Rattle.graph_data.specs.Below.{names_of}
use Rattle.graph_data.specs.Data.{edge_tokens, HaveTexts, list_tokens, PutsTokens}

-- so many are written
abbrev pub invariant-loop-edge : goal.invariant-loop-edge
invariant-loop-edge l = HaveTexts (names_of l.rules) → PutsTokens l.fn.writer l.writer (λ rest.
    key (codes "edges") ∷ begin_array ∷ list_tokens (edge_tokens (names_of l.rules)) (take l.edge-index l.edges) rest)
