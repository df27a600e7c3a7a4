-- What a solver is to those that use it.
use Rattle.std.specs.Prelude.{Bool, List}
use Rattle.delegate_parts.specs.declared.lends.Lends.{Ghosts as LendingOf}
use Rattle.games.specs.declared.game.Game.{Game}
use Rattle.games.specs.declared.solver.Solver.{Solver}
use Rattle.games.specs.Strategy.{Position, positions_of}

-- the positions of the game that it solves
abbrev pub solved : {G : Type 0} {lending : LendingOf G Game} → Solver G lending → List Position
solved {lending = lending} solver = positions_of (lending.lent_by solver.cache.cx.0.0.lender)

-- a question was cut off since it was made
abbrev pub had_limits : {G : Type 0} {lending : LendingOf G Game} → Solver G lending → Bool
had_limits solver = solver.limits_met
