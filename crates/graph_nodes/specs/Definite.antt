-- Definite results, and the node that each of them comes with.
use Rattle.std.specs.Prelude.{◌≡◌, ℕ, List, Option, None}
use Rattle.std.specs.Option.{IsSomeAnd}
use Rattle.open_graphs.specs.Graph.{Verdict}
use Rattle.graph_nodes.specs.Below.{Neither, IsClosedGraph}
use Rattle.search_context.specs.declared.context.NodeId.{NodeId}
use Rattle.graph_nodes.specs.Nodes.{CacheNode, IsNodeOf}
use Rattle.graph_nodes.specs.Shapes.{shapes_of}
use Rattle.search_context.specs.Verdicts.{IsDefinite, verdict_of, Verdicts}

-- a definite result comes with a node of the goal, which has a property for the result's verdict;
-- another one comes with none
pub record HasNode {I R : Type 0} (says : Verdicts R) (nodes : List (CacheNode I R)) (has : Verdict → ℕ → Type 0)
    (goal : I) (r : R) (node : Option NodeId) : Type 0 where
  pub definite : IsDefinite says r → IsSomeAnd node (λ n. IsNodeOf nodes n.0 goal × has (verdict_of says r) n.0)
  pub neither : verdict_of says r ≡ Neither → node ≡ None

-- the node of a definite result has a graph of the result's verdict
abbrev pub HasGraph : {I R : Type 0} → Verdicts R → List (CacheNode I R) → I → R → Option NodeId → Type 0
HasGraph says nodes = HasNode says nodes (IsClosedGraph (shapes_of says nodes))
