-- Rules that change, and goals that stay as they were.
use Rattle.std.specs.Prelude.{◌≡◌, Bool, false, List, Contains}
use Rattle.determined.specs.Below.{Question}

-- What shows a goal that stays by the rule before shows it by the rule after, too, and of its questions those on goals
-- that stay are enough.
abbrev pub KeepsRule : {I : Type 0} → (is_gone : I → Bool) → (before after : I → List (Question I) → Type 0) → Type 0
KeepsRule {I} is_gone before after = (goal : I) (questions kept : List (Question I)) → is_gone goal ≡ false
    → ((q : Question I) → Contains questions q → is_gone q.goal ≡ false → Contains kept q)
    → before goal questions → after goal kept
