-- How kinds of steps and goals are written.
use Rattle.std.specs.Prelude.{ℕ, List, [], codes, slice_get}
use Rattle.std.specs.Option.{unwrap_or}
use Rattle.path_kinds.specs.declared.path.PathKind.{PathKind}
use Rattle.path_kinds.specs.declared.path.PathKind.TheVariants.{Coinductive, ForcedAmbiguity, Inductive, Unknown}
use Rattle.graph_texts.specs.Below.{Goal, number_of}

-- the letter of a kind, as in the rules
abbrev pub letter_of : PathKind → List ℕ
letter_of Inductive = codes "i"
letter_of Unknown = codes "u"
letter_of Coinductive = codes "c"
letter_of ForcedAmbiguity = codes "f"

-- the goal's name; these are the names of goals, in the order of their numbers
abbrev pub goal_text : List (List ℕ) → Goal → List ℕ
goal_text names goal = unwrap_or (slice_get names (number_of goal)) []
