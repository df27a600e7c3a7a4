-- A test of the goals below a result.
use Rattle.std.specs.Prelude.{Bool, true, false, List, [], ◌∷◌}

-- there are none
abbrev pub has_none : {A : Type 0} → List A → Bool
has_none [] = true
has_none (a ∷ rest) = false
