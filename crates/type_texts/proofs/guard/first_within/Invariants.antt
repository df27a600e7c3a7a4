use Rattle.std.proofs.Common.{◌≡◌, ℕ, ◌<◌, slice_index}
use Rattle.type_texts.specs.Words.{HasStep, successor_lists}
use Rattle.type_texts.proofs.guard.first_within.Given as goal

-- no step from the places so far stays in its component
abbrev pub invariant-loop-place : goal.invariant-loop-place
invariant-loop-place l =
    (a b : ℕ) → a < l.place → HasStep (successor_lists l.graph) a b
    → slice_index l.numbers b ≡ slice_index l.numbers a → ⊥
