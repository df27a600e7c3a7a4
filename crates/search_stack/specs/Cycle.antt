-- The kinds of the cycles that end at a goal on the stack, which is called their head.
use Rattle.std.specs.Prelude.{ℕ, ◌+◌, List, ◌∷◌, map, drop}
use Rattle.search_stack.specs.Below.{PathKind, greatest_kind}
use Rattle.search_stack.specs.declared.stack.StackEntry.{StackEntry}

module _ {X I R A T : Type 0} where
  -- the kinds of the steps by which the goals above the head were asked, from below
  abbrev pub step_kinds_above : List (StackEntry X I R A T) → (head : ℕ) → List PathKind
  step_kinds_above stack head = map (λ e. e.step_kind_from_parent) (drop (head + 1) stack)

  -- the kind of the path from the head to the last goal and on over one more step; the head's own step isn't on it
  abbrev pub path_kind_from : List (StackEntry X I R A T) → (head : ℕ) → (step : PathKind) → PathKind
  path_kind_from stack head step = greatest_kind (step ∷ step_kinds_above stack head)
