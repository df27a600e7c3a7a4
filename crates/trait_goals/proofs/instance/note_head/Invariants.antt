use Rattle.std.proofs.Common.{◌≡◌, ℕ, Some, length}
use Rattle.std.specs.Prelude.{slice_get}
use Rattle.trait_goals.proofs.instance.note_head.Given as goal

abbrev pub invariant-loop-place : goal.invariant-loop-place
invariant-loop-place l = (length l.found.items ≡ l.place) × ((place number : ℕ) →
    slice_get l.found.items place ≡ Some (Some number)
    → (place ≡ l.rule.head) × (number ≡ l.subject))
