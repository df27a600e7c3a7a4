-- The runs of a graph's nodes.
use Rattle.std.specs.Prelude.{Bool, List, All}
use Rattle.graph_check.specs.Below.{Node, Reply, Request, IsRunOfSort}

-- each node is a run of its goal, with a result of the sort
abbrev pub AreRunsOfSort : {I R : Type 0} → (R → Bool) → (I → List (Reply R) → Request I R) → List (Node I R) → Type 0
AreRunsOfSort is_of_sort scripts nodes = All (λ n. IsRunOfSort is_of_sort (scripts n.input) n) nodes
