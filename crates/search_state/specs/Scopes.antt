-- The scopes that are held.
use Rattle.std.specs.Prelude.{List, ◌∷◌, None, Option, Some}

-- these, and over them the scope, if there is one
abbrev pub held_over : {V : Type 0} → Option V → List V → List V
held_over None below = below
held_over (Some scope) below = scope ∷ below
