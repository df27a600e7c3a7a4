use Rattle.std.proofs.Common.{◌≡◌, ◌==◌, drop}
use Rattle.std.specs.List.{find}
use Rattle.type_order.proofs.fields.part_of.Given as goal

-- the first field with the name is among those that are left
abbrev pub invariant-loop-field : goal.invariant-loop-field
invariant-loop-field l =
    find (λ field. field.name == l.name) (drop l.field-index l.fields) ≡ find (λ field. field.name == l.name) l.fields
