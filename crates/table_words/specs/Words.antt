-- How goals of a table, results and kinds of steps are written.
use Rattle.std.specs.Prelude.{ℕ, List, [], codes}
use Rattle.std.specs.Option.{unwrap_or}
use Rattle.table_words.specs.Below.{PathKind, Coinductive, ForcedAmbiguity, Inductive, Unknown, Outcome, word_of}
use Rattle.table_words.specs.Below.{WordsOf, name_of, Goal, Rules}

-- the letter of a kind
abbrev pub kind_letter : PathKind → List ℕ
kind_letter Inductive = codes "i"
kind_letter Unknown = codes "u"
kind_letter Coinductive = codes "c"
kind_letter ForcedAmbiguity = codes "f"

-- a goal's name; a goal of another table may have none
abbrev pub name_or_none : Rules → Goal → List ℕ
name_or_none rules goal = unwrap_or (name_of rules goal) []

-- how goals, results and kinds are written
abbrev pub words_of : Rules → WordsOf Goal Outcome
words_of rules = record { kind = kind_letter; goal = name_or_none rules; outcome = word_of }
