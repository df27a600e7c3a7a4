-- The parts of types, and how many types and parts there are.
use Rattle.std.specs.Prelude.{ℕ, ◌+◌, List, [], ◌∷◌, map, length}
use Rattle.std.specs.List.{flat_map}
use Rattle.type_order.specs.declared.types.Form.{Form}
use Rattle.type_order.specs.declared.types.Form.TheVariants.{Function, Record, Union}

-- the parts of a type
abbrev pub parts_of : Form → List ℕ
parts_of (Function a b) = a ∷ b ∷ []
parts_of (Record fields) = map (λ field. field.part) fields.items
parts_of (Union alternatives) = alternatives.items
parts_of _ = []

-- the parts of all types
abbrev pub all_parts : List Form → List ℕ
all_parts forms = flat_map parts_of forms

-- how many types there are, together with their parts
abbrev pub extent_of : List Form → ℕ
extent_of forms = length forms + length (all_parts forms)
