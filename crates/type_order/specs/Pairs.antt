-- The pairs that questions about types come to.
use Rattle.std.specs.Prelude.{ℕ, ◌+◌, List, ◌++◌, map, length}
use Rattle.std.specs.List.{flat_map, range_with_len}
use Rattle.type_order.specs.Parts.{all_parts}
use Rattle.type_order.specs.Rule.{pair}
use Rattle.type_order.specs.Subtypes.{Form}
use Rattle.type_order.specs.declared.delegate.Pair.{Pair}

-- the numbers of the types, one that is no type's, and the numbers of all parts
abbrev pub numbers_of : List Form → List ℕ
numbers_of forms = range_with_len 0 (length forms + 1) ++ all_parts forms

-- each of the numbers against each
abbrev pub each_pair : List ℕ → List Pair
each_pair numbers = flat_map (λ l. map (λ r. pair l r) numbers) numbers

-- all pairs that may be asked
abbrev pub askable : List Form → List Pair
askable forms = each_pair (numbers_of forms)
