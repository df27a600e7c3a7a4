-- When two shapes are equal, whether they end or not. A shape is told by its number, the place of its equation.
use Rattle.std.specs.Prelude.{◌≡◌, ℕ, List, length, slice_get, Contains, Some}
pub use Rattle.shapes.specs.declared.equations.Equation.{Equation}
use Rattle.shapes.specs.declared.equations.Shapes.{Shapes}

-- the equations that declare the shapes
abbrev pub equations_of : Shapes → List Equation
equations_of shapes = shapes.equations.items

-- two shapes have one label, as many parts, and their parts are pairs of the list, each with its fellow
pub record AreMatched (pairs : List (ℕ × ℕ)) (left right : Equation) : Type 0 where
  pub label : left.label ≡ right.label
  pub number : length left.parts.items ≡ length right.parts.items
  pub parts : (at l r : ℕ) → slice_get left.parts.items at ≡ Some l
      → slice_get right.parts.items at ≡ Some r → Contains pairs (l, r)

-- both numbers are declared, and their shapes are matched
pub record IsMatchedPair (equations : List Equation) (pairs : List (ℕ × ℕ)) (l r : ℕ) : Type 0 where
  pub left : Equation
  pub right : Equation
  pub has_left : slice_get equations l ≡ Some left
  pub has_right : slice_get equations r ≡ Some right
  pub are_matched : AreMatched pairs left right

-- a list of pairs that is closed: each of its pairs is matched, by pairs of the same list
abbrev pub IsBisimulation : List Equation → List (ℕ × ℕ) → Type 0
IsBisimulation equations pairs = (l r : ℕ) → Contains pairs (l, r) → IsMatchedPair equations pairs l r

-- the shapes are equal: some such list has their pair
pub record AreEqual (equations : List Equation) (l r : ℕ) : Type 0 where
  pub pairs : List (ℕ × ℕ)
  pub is_bisimulation : IsBisimulation equations pairs
  pub has_pair : Contains pairs (l, r)
