-- The rule of a pair of shapes, as a list of questions.
use Rattle.std.specs.Prelude.{ℕ, ◌==◌, ◌&&◌, if◌then◌else◌, List, [], ◌∷◌, length, sum_by, slice_get, Option}
use Rattle.std.specs.Prelude.{Some, None}
use Rattle.shapes.specs.Below.{Coinductive, Question, Needs, All, Any}
use Rattle.shapes.specs.declared.equations.Equation.{Equation}
use Rattle.shapes.specs.declared.delegate.Pair.{Pair}

-- the parts of both, if they have one label and as many parts
abbrev pub parts_in : Option Equation → Option Equation → Option (List ℕ × List ℕ)
parts_in (Some left) (Some right) =
    if (left.label == right.label) && (length left.parts.items == length right.parts.items)
    then Some (left.parts.items, right.parts.items) else None
parts_in _ _ = None

-- the same of the shapes with these numbers
abbrev pub matched_parts : List Equation → ℕ → ℕ → Option (List ℕ × List ℕ)
matched_parts equations l r = parts_in (slice_get equations l) (slice_get equations r)

-- the question whether two shapes are equal
abbrev pub asks : ℕ → ℕ → Question Pair
asks l r = record { kind = Coinductive; goal = record { left = l; right = r } }

-- each part with its fellow
abbrev pub asks_each : List ℕ → List ℕ → List (Question Pair)
asks_each (l ∷ ls) (r ∷ rs) = asks l r ∷ asks_each ls rs
asks_each _ _ = []

-- two parts as a pair, if both are there
abbrev pub pair_of : Option ℕ → Option ℕ → Option Pair
pair_of (Some l) (Some r) = Some (record { left = l; right = r })
pair_of _ _ = None

-- the parts at one place
abbrev pub parts_at : Option (List ℕ × List ℕ) → ℕ → Option Pair
parts_at (Some parts) at = pair_of (slice_get parts.0 at) (slice_get parts.1 at)
parts_at None at = None

-- a pair that does not match needs any of no questions, so it does not hold
abbrev pub needs_in : Option (List ℕ × List ℕ) → Needs
needs_in (Some parts) = All
needs_in None = Any

abbrev pub questions_in : Option (List ℕ × List ℕ) → List (Question Pair)
questions_in (Some parts) = asks_each parts.0 parts.1
questions_in None = []

abbrev pub needs_of : List Equation → Pair → Needs
needs_of equations pair = needs_in (matched_parts equations pair.left pair.right)

abbrev pub questions_of : List Equation → Pair → List (Question Pair)
questions_of equations pair = questions_in (matched_parts equations pair.left pair.right)

-- no shape has more parts than all have together
abbrev pub most_parts : List Equation → ℕ
most_parts equations = sum_by (λ e. length e.parts.items) equations
