-- Parts of graphs: some nodes are known to be shown by graphs of their own, and the others are checked.
use Rattle.std.specs.Prelude.{◌≡◌, ℕ, Bool, true, false, List, slice_get, Some}
use Rattle.graph_check.specs.Below.{GraphNode, IsGraph, IsRunOfSort, Node, PathKind, Question, Reply, Request}

-- some graph shows the goal by the rule
abbrev pub HasGraph : {I : Type 0} → (I → List (Question I) → Type 0) → PathKind → I → Type 0
HasGraph {I} rule kind goal = (nodes : List (GraphNode I)) × (root : ℕ) × IsGraph rule kind nodes root goal

module _ {I : Type 0} (rule : I → List (Question I) → Type 0) (kind : PathKind) where
  -- the goal of each known node is shown by some graph
  abbrev pub AreKnown : List Bool → List (GraphNode I) → Type 0
  AreKnown known nodes = (at : ℕ) (n : GraphNode I) → slice_get nodes at ≡ Some n → slice_get known at ≡ Some true
      → HasGraph rule kind n.goal

  -- the goal of each node is shown by some graph
  abbrev pub AreShown : List (GraphNode I) → Type 0
  AreShown nodes = (at : ℕ) (n : GraphNode I) → slice_get nodes at ≡ Some n → HasGraph rule kind n.goal

module _ {I R : Type 0} (is_of_sort : R → Bool) where
  -- the result of each node that is not known is of the sort
  abbrev pub AreSorted : List Bool → List (Node I R) → Type 0
  AreSorted known nodes = (at : ℕ) (n : Node I R) → slice_get nodes at ≡ Some n → slice_get known at ≡ Some false
      → is_of_sort n.result ≡ true

  -- each node that is not known is a run of its goal, with a result of the sort
  abbrev pub AreRunsButKnown : (I → List (Reply R) → Request I R) → List Bool → List (Node I R) → Type 0
  AreRunsButKnown scripts known nodes = (at : ℕ) (n : Node I R) → slice_get nodes at ≡ Some n
      → slice_get known at ≡ Some false → IsRunOfSort is_of_sort (scripts n.input) n
