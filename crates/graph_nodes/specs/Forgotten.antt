-- The list of nodes once those of some goals were let go.
use Rattle.std.specs.Prelude.{◌≡◌, ℕ, Bool, true, false, List, Some, length, slice_get}
use Rattle.std.specs.List.{list_any}
use Rattle.graph_nodes.specs.Held.{IsGone}
use Rattle.graph_nodes.specs.Nodes.{CacheNode}

-- the goal equals one of these
abbrev pub is_among : {I : Type 0} → (I → I → Bool) → List I → I → Bool
is_among same goals goal = list_any (same goal) goals

-- nodes of goals that are gone are gone, all others are as they were, under the same numbers
pub record KeepsOtherNodes {I R : Type 0} (is_gone : I → Bool) (old new : List (CacheNode I R)) : Type 0 where
  pub as_many : length new ≡ length old
  pub kept : (at : ℕ) (n : CacheNode I R) → slice_get old at ≡ Some n → is_gone n.goal ≡ false
      → slice_get new at ≡ Some n
  pub gone : (at : ℕ) (n : CacheNode I R) → slice_get old at ≡ Some n → is_gone n.goal ≡ true
      → IsGone (slice_get new at)
