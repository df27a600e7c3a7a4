-- The rule of a position, as a list of questions.
use Rattle.std.specs.Prelude.{ℕ, List, [], map, length, sum_by, slice_get}
use Rattle.std.specs.Option.{option_map_or}
use Rattle.games.specs.Below.{All, Any, Inductive, Needs, Question}
use Rattle.games.specs.Strategy.{One, Player, Position, Two}

-- where the moves of a position lead
abbrev pub moves_of : List Position → ℕ → List ℕ
moves_of positions at = option_map_or (λ p. p.moves.items) (slice_get positions at) []

-- One needs any of the moves to be won, and wins at Two's turn if all of them are
abbrev pub needs_at : Player → Needs
needs_at One = Any
needs_at Two = All

-- what is no position needs any of no questions, so it is not won
abbrev pub needs_of : List Position → ℕ → Needs
needs_of positions at = option_map_or (λ p. needs_at p.turn) (slice_get positions at) Any

-- whether a position is won
abbrev pub asks : ℕ → Question ℕ
asks next = record { kind = Inductive; goal = next }

abbrev pub questions_of : List Position → ℕ → List (Question ℕ)
questions_of positions at = map asks (moves_of positions at)

-- no position has more moves than all have together
abbrev pub most_moves : List Position → ℕ
most_moves positions = sum_by (λ p. length p.moves.items) positions
