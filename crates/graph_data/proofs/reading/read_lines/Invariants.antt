use Rattle.std.proofs.Common.{◌≡◌, ◌∷◌, List, ℕ, codes}
use Rattle.json.specs.Token.{begin_array, key}
use Rattle.graph_data.proofs.reading.read_lines.Given as goal
use Rattle.graph_data.specs.Data.{left_in, list_tokens, string_tokens}
use Rattle.graph_data.specs.Page.{text_of}

-- the lines so far are read
abbrev pub invariant-loop : goal.invariant-loop
invariant-loop l = (lines : List (List ℕ)) × (l.text.items ≡ text_of lines)
    × (left_in l.fn.source ≡ key (codes "rules") ∷ begin_array ∷ list_tokens string_tokens lines (left_in l.source))
