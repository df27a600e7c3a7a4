-- The kind of a path from a goal on the stack.
use Rattle.std.proofs.Common.{◌≡◌, ℕ, ◌+◌, List, ◌∷◌, drop, map, ap, ◌∙◌}
use Rattle.std.proofs.lemmas.List.{drop-map}
use Rattle.search_stack.specs.Below.{PathKind, greater_kind, greatest_kind}
use Rattle.search_stack.specs.Words.{StackEntry, step_kinds_above}

-- the kind of a path over one more step, by those of the steps past the head
pub kind_past-step : {X I R A T : Type 0} (stack : List (StackEntry X I R A T)) (head : ℕ)
    (step past path : PathKind) {told : PathKind}
    → path ≡ greater_kind step past → past ≡ told
    → told ≡ greatest_kind (drop (head + 1) (map (λ e. e.step_kind_from_parent) stack))
    → path ≡ greatest_kind (step ∷ step_kinds_above stack head)
kind_past-step stack head step past path joined is tells =
    joined ∙ ap (greater_kind step)
    (is ∙ tells ∙ ap greatest_kind (drop-map (λ e. e.step_kind_from_parent) (head + 1) stack))
