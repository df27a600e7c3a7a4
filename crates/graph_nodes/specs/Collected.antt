-- The list of nodes once those were let go to which nothing leads any more.
use Rattle.std.specs.Prelude.{◌≡◌, ◌⊎◌, ◌<◌, ◌++◌, ◌∷◌, [], ℕ, Bool, Contains, IsTrue, List, None, Option}
use Rattle.std.specs.Prelude.{slice_get, Some}
use Rattle.search_context.specs.declared.context.Edge.{Edge}
use Rattle.search_context.specs.declared.context.NodeId.{NodeId}
use Rattle.search_context.specs.Graph.{HasEdge, IsReached}
use Rattle.graph_nodes.specs.Nodes.{CacheNode, graph_nodes_of}
use Rattle.graph_nodes.specs.Held.{IsGone}

-- no edge leads from a node before this place to one that is not before it
abbrev pub StayBefore : {I R : Type 0} → ℕ → List (CacheNode I R) → Type 0
StayBefore {I} first nodes = (at : ℕ) (e : Edge I) → at < first → HasEdge (graph_nodes_of nodes) at e → e.target < first

-- the roots with another one, if there is one
abbrev pub with_root : Option NodeId → List NodeId → List NodeId
with_root None roots = roots
with_root (Some root) roots = roots ++ root ∷ []

-- Live are the nodes before this place, and of the others those that are reached from a root.
pub record AreLive {I R : Type 0} (nodes : List (CacheNode I R)) (first : ℕ)
    (roots : List NodeId) (live : ℕ → Bool) : Type 0 where
  pub earlier : (at : ℕ) → at < first → IsTrue (live at)
  pub rooted : (root : NodeId) → Contains roots root → IsTrue (live root.0)
  pub reached : (at : ℕ) → IsTrue (live at)
      → (at < first) ⊎ ((root : NodeId) × Contains roots root × IsReached (graph_nodes_of nodes) root.0 at)

-- Live nodes are as they were, and lead to live ones alone. Each other number is gone.
pub record Collected {I R : Type 0} (live : ℕ → Bool) (old new : List (CacheNode I R)) : Type 0 where
  pub same : (at : ℕ) → IsTrue (live at) → slice_get new at ≡ slice_get old at
  pub closed : (at : ℕ) (e : Edge I) → IsTrue (live at) → HasEdge (graph_nodes_of old) at e → IsTrue (live e.target)
  pub left : (at : ℕ) → ¬ IsGone (slice_get new at) → IsTrue (live at)
