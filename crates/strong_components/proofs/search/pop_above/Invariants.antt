use Rattle.std.proofs.Common.{◌≡◌, ℕ, ◌<◌, ◌≤◌, length, slice_index}
use Rattle.strong_components.proofs.search.pop_above.Given as goal

abbrev pub invariant-loop-number : goal.invariant-loop-number
invariant-loop-number l = record {
  fewer : length l.numbers.items ≤ length l.initial.numbers.items;
  kept : (k : ℕ) → k < length l.numbers.items → slice_index l.numbers.items k ≡ slice_index l.initial.numbers.items k;
  popped : (k : ℕ) → length l.numbers.items ≤ k → k < length l.initial.numbers.items
      → l.limit < slice_index l.initial.numbers.items k;
}

abbrev pub decreases-loop-number : goal.decreases-loop-number
decreases-loop-number l = length l.numbers.items
