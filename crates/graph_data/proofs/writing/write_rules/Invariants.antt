use Rattle.std.proofs.Common.{◌∷◌, codes, length, List, take, ℕ}
use Rattle.json.specs.Token.{begin_array, begin_object, key}
use Rattle.line_texts.specs.Lines.{lines_of}
use Rattle.graph_data.proofs.Lines.{AreSaid}
use Rattle.graph_data.proofs.writing.write_rules.Given as goal
use Rattle.graph_data.specs.Data.{list_tokens, PutsTokens, string_tokens}

-- what so many lines say is written
abbrev pub invariant-loop-line : goal.invariant-loop-line
invariant-loop-line l =
    (lines : List (List ℕ)) × AreSaid (take (length l.yielded) (lines_of l.text)) lines × PutsTokens l.fn.writer
    l.writer (λ rest. begin_object ∷ key (codes "rules") ∷ begin_array ∷ list_tokens string_tokens lines rest)
