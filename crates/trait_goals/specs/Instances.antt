-- The types that stand in the shapes of a rule, by their numbers.
use Rattle.std.specs.Prelude.{◌≡◌, ◌<◌, ℕ, List, length, slice_get, Option, Some}
use Rattle.trait_rules.specs.declared.made.Made.TheVariants.{Applied as MadeApplied, Constructor as MadeConstructor}
use Rattle.trait_rules.specs.declared.rules.Shape.TheVariants.{Parameter, Constructor, Applied}
use Rattle.trait_goals.specs.Below.{Made, Shape, Stands, Term}

-- the numbers that were found so far stand for these types
pub record AreTold (made : List Made) (found : List (Option ℕ)) (types : ℕ → Term) : Type 0 where
  pub told : (place number : ℕ) → slice_get found place ≡ Some (Some number) → Stands made number (types place)

-- each of the numbers stands for its type
pub record AllTold (made : List Made) (all : List ℕ) (types : ℕ → Term) : Type 0 where
  pub told : (place number : ℕ) → slice_get all place ≡ Some number → Stands made number (types place)

-- the type of this number is made as the shape says
abbrev pub IsMade : List Made → List ℕ → Shape → ℕ → Type 0
IsMade made all Parameter number = number < length made
IsMade made all (Constructor c) number = slice_get made number ≡ Some (MadeConstructor c)
IsMade made all (Applied f x) number = (g : ℕ) × ((y : ℕ) × ((slice_get all f ≡ Some g) × ((slice_get all x ≡ Some y)
    × (slice_get made number ≡ Some (MadeApplied g y)))))

-- there is a type for each shape, which is made as the shape says
pub record AreMade (made : List Made) (shapes : List Shape) (all : List ℕ) : Type 0 where
  pub each : (place : ℕ) (shape : Shape) → slice_get shapes place ≡ Some shape →
      (number : ℕ) × ((slice_get all place ≡ Some number) × IsMade made all shape number)
