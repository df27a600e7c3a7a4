use Rattle.std.proofs.Common.{◌≡◌, ◌∷◌, All, map}
use Rattle.json.specs.Token.{begin_array, key}
use Rattle.graph_data.specs.Below.{names_of}
use Rattle.graph_data.specs.Data.{left_in, list_tokens}
use Rattle.graph_data.proofs.reading.array.read_array.Given as goal

-- the values so far are read
abbrev pub invariant-loop : goal.invariant-loop
invariant-loop g l = record {
  spelled : left_in l.fn.source ≡ key l.wanted ∷ begin_array
      ∷ list_tokens (g.I.Item.spelled (names_of l.rules)) (map g.I.Item.plain l.items.items) (left_in l.source);
  right : All (g.I.Item.is_right (names_of l.rules)) (map g.I.Item.plain l.items.items);
}
