-- The fields of records.
use Rattle.std.specs.Prelude.{ℕ, ◌==◌, Bool, List, Option, is_some}
use Rattle.std.specs.List.{find, list_all}
use Rattle.std.specs.Option.{option_map}
pub use Rattle.type_order.specs.declared.fields.Field.{Field}

-- the type of the first field with this name
abbrev pub part_of : List Field → ℕ → Option ℕ
part_of fields name = option_map (λ field. field.part) (find (λ field. field.name == name) fields)

-- each of the others is one of these fields, by its name
abbrev pub has_all : (fields others : List Field) → Bool
has_all fields others = list_all (λ other. is_some (part_of fields other.name)) others
