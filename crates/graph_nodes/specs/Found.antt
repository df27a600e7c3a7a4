-- The numbers of the nodes that are found while a graph is copied, in the order of finding.
use Rattle.std.specs.Prelude.{◌≡◌, ℕ, ◌<◌, ◌⊎◌, List, map, length, slice_get, slice_index, Some, Contains}
use Rattle.search_context.specs.declared.context.Edge.{Edge}
use Rattle.search_context.specs.Graph.{original_edge}

-- what was found stays at its place, and what is new is among these numbers
pub record Finds (old new numbers : List ℕ) : Type 0 where
  pub stays : (at n : ℕ) → slice_get old at ≡ Some n → slice_get new at ≡ Some n
  pub only : (at n : ℕ) → slice_get new at ≡ Some n → (slice_get old at ≡ Some n) ⊎ Contains numbers n

-- the same edges, with the places of their targets
pub record ArePlaced {I : Type 0} (numbers : List ℕ) (edges placed : List (Edge I)) : Type 0 where
  pub same : map (original_edge (slice_index numbers)) placed ≡ edges
  pub inside : (i : ℕ) (e : Edge I) → slice_get placed i ≡ Some e → e.target < length numbers
