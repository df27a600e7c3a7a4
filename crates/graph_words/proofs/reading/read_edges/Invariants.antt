use Rattle.std.proofs.Common.{length, ◌≡◌, ◌∷◌}
use Rattle.graph_words.proofs.reading.read_edges.Given as goal
use Rattle.graph_words.specs.Words.{edge_words, left_in, list_words}

-- so many are read
abbrev pub invariant-loop : goal.invariant-loop
invariant-loop l = record {
  spelled : left_in l.fn.source ≡ l.count ∷ list_words edge_words l.edges.items (left_in l.source);
  many : length l.edges.items ≡ l.counter;
}
