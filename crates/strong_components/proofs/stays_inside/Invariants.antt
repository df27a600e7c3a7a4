use Rattle.std.proofs.Common.{ℕ, ◌<◌, [], length, slice_index_or}
use Rattle.std.specs.List.{All}
use Rattle.strong_components.specs.Words.{successor_lists}
use Rattle.strong_components.proofs.stays_inside.Given as goal

abbrev pub invariant-loop-successors : goal.invariant-loop-successors
invariant-loop-successors l =
    (k : ℕ) → k < l.successors-index
    → All (λ place. place < length l.graph) (slice_index_or (successor_lists l.graph) k [])
