-- How player One wins. A position is told by its number, its place in the list.
use Rattle.std.specs.Prelude.{◌≡◌, ℕ, List, slice_get, Contains, Some}
use Rattle.games.specs.declared.game.Game.{Game}
pub use Rattle.games.specs.declared.game.Player.{Player}
pub use Rattle.games.specs.declared.game.Player.TheVariants.{One, Two}
pub use Rattle.games.specs.declared.game.Position.{Position}

-- the positions of a game
abbrev pub positions_of : Game → List Position
positions_of game = game.positions.items

-- it is this player's turn, and these are the moves
pub record IsTurn (positions : List Position) (at : ℕ) (player : Player) (moves : List ℕ) : Type 0 where
  pub position : Position
  pub is_position : slice_get positions at ≡ Some position
  pub is_turn : position.turn ≡ player
  pub has_moves : position.moves.items ≡ moves

-- A tree that says how One wins: on One's turn it has a move and a strategy from there, and on Two's a strategy from
-- wherever Two moves. It has no path without end, so play ends, with Two to move and without a move.
pub data Strategy (positions : List Position) : ℕ → Type 0 where
  move : {at : ℕ} (moves : List ℕ) (next : ℕ) → IsTurn positions at One moves → Contains moves next
      → Strategy positions next → Strategy positions at
  reply : {at : ℕ} (moves : List ℕ) → IsTurn positions at Two moves
      → ((next : ℕ) → Contains moves next → Strategy positions next) → Strategy positions at
