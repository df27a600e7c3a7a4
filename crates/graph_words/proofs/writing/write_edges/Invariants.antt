use Rattle.std.proofs.Common.{◌∷◌, length, take}
use Rattle.graph_words.proofs.writing.write_edges.Given as goal
use Rattle.graph_words.specs.Words.{PutsWords, edge_words, list_words}

-- so many are written
abbrev pub invariant-loop-edge : goal.invariant-loop-edge
invariant-loop-edge l = PutsWords l.fn.words.items l.words.items
    (λ rest. length l.edges ∷ list_words edge_words (take l.edge-index l.edges) rest)
