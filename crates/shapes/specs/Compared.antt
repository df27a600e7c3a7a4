-- What a comparison is to those that use it.
use Rattle.std.specs.Prelude.{Bool, List}
use Rattle.shapes.specs.declared.equations.Equation.{Equation}
use Rattle.shapes.specs.declared.equations.Shapes.{Shapes}
use Rattle.shapes.specs.declared.comparison.Comparison.{Comparison}
use Rattle.delegate_parts.specs.declared.lends.Lends.{Ghosts as LendingOf}
use Rattle.shapes.specs.Bisimulation.{equations_of}

-- the equations of the shapes that it compares
abbrev pub compared : {S : Type 0} {lending : LendingOf S Shapes} → Comparison S lending → List Equation
compared {lending = lending} comparison = equations_of (lending.lent_by comparison.cache.cx.0.0.lender)

-- a question was cut off since it was made
abbrev pub had_limits : {S : Type 0} {lending : LendingOf S Shapes} → Comparison S lending → Bool
had_limits comparison = comparison.limits_met
