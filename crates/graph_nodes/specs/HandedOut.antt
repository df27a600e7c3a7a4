-- Graphs handed out as data: which nodes of a cache have one, and what it is a copy of.
use Rattle.std.specs.Prelude.{◌≡◌, ℕ, ◌<◌, List, map, length, slice_get, slice_index, false, Some, IsSome}
use Rattle.search_context.specs.declared.context.Edge.{Edge}
use Rattle.search_context.specs.declared.context.Node.{Node}
use Rattle.graph_nodes.specs.Nodes.{CacheNode, finished_node, graph_nodes_of}
use Rattle.search_context.specs.Graph.{HasEdge, IsReached, original_edge}
use Rattle.search_context.specs.Valid.{goal_nodes_of}

-- all that is reached from the node, itself among it, is finished
abbrev pub IsWhole : {I R : Type 0} → List (CacheNode I R) → ℕ → Type 0
IsWhole nodes root = (at : ℕ) → IsReached (graph_nodes_of nodes) root at → IsSome (finished_node nodes at)

-- each node of which that holds keeps it
abbrev pub KeepsWhole : {I R : Type 0} → List (CacheNode I R) → List (CacheNode I R) → Type 0
KeepsWhole old new = (root : ℕ) → IsWhole old root → IsWhole new root

-- the node of a cache that this one is a copy of, where `original` gives the number of the node that
-- each target stands for
abbrev pub original_node : {I R : Type 0} → (ℕ → ℕ) → Node I R → CacheNode I R
original_node original n =
    record {
      goal = n.input;
      run = Some (record {
        replies = n.replies.items;
        edges = map (original_edge original) n.edges.items;
        outcome = n.result;
      });
      gone = false;
    }

-- The nodes of the copy stand for those of the list with these numbers. The first is that of the root. Each is the same
-- as the finished node that it stands for, but that its edges lead to places of the copy. Each stands for a node that
-- is reached from the root, and no two for one.
pub record Copies {I R : Type 0} (nodes : List (CacheNode I R)) (root : ℕ)
    (copy : List (Node I R)) (numbers : List ℕ) : Type 0 where
  pub each : length numbers ≡ length copy
  pub rooted : slice_get numbers 0 ≡ Some root
  pub same : (at : ℕ) (n : Node I R) → slice_get copy at ≡ Some n
      → finished_node nodes (slice_index numbers at) ≡ Some (original_node (slice_index numbers) n)
  pub inside : (at : ℕ) (e : Edge I) → HasEdge (goal_nodes_of copy) at e → e.target < length copy
  pub reached : (at : ℕ) → at < length copy → IsReached (graph_nodes_of nodes) root (slice_index numbers at)
  pub once : (at other : ℕ) → at < length copy → other < length copy
      → slice_index numbers at ≡ slice_index numbers other → at ≡ other

-- the nodes that are reached from the root, each once and the root first
abbrev pub IsCopyFrom : {I R : Type 0} → List (CacheNode I R) → ℕ → List (Node I R) → Type 0
IsCopyFrom nodes root copy = (numbers : List ℕ) × Copies nodes root copy numbers
