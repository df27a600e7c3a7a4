-- Graphs of goals. A proof graph shows that a goal holds, a refutation graph that it does not.
use Rattle.std.specs.Prelude.{◌≡◌, ℕ, ◌<◌, List, [], ◌∷◌, map, length, slice_get, Some, IsSomeAnd, Contains}
use Rattle.std.specs.Option.{option_map}
use Rattle.search_context.specs.Below.{PathKind, Inductive, Coinductive, greatest_kind}
use Rattle.search_context.specs.declared.context.Edge.{Edge}
use Rattle.search_context.specs.Question.{Question}

-- a goal and its edges; the target of an edge is a place in the list of nodes
pub record GraphNode (I : Type 0) : Type 0 where
  pub goal : I
  pub edges : List (Edge I)

-- what an edge asks
abbrev pub question_of : {I : Type 0} → Edge I → Question I
question_of e = record { kind = e.kind; goal = e.input }

-- the node at a place has this goal
abbrev pub HasGoal : {I : Type 0} → List (GraphNode I) → ℕ → I → Type 0
HasGoal nodes at goal = option_map (λ n. n.goal) (slice_get nodes at) ≡ Some goal

-- the node at a place has this edge
abbrev pub HasEdge : {I : Type 0} → List (GraphNode I) → ℕ → Edge I → Type 0
HasEdge nodes at e = IsSomeAnd (slice_get nodes at) (λ n. Contains n.edges e)

-- the edges lead from one place to another
abbrev pub IsWalk : {I : Type 0} → List (GraphNode I) → ℕ → List (Edge I) → ℕ → Type 0
IsWalk nodes from [] to = from ≡ to
IsWalk nodes from (e ∷ rest) to = HasEdge nodes from e × IsWalk nodes e.target rest to

-- some walk leads from one place to another
abbrev pub IsReached : {I : Type 0} → List (GraphNode I) → ℕ → ℕ → Type 0
IsReached {I} nodes from to = (walk : List (Edge I)) × IsWalk nodes from walk to

-- the kind of a walk is that of its greatest edge
abbrev pub walk_kind : {I : Type 0} → List (Edge I) → PathKind
walk_kind walk = greatest_kind (map (λ e. e.kind) walk)

-- What is reached from the root is closed and keeps the rule: the root has the goal, each edge leads to a
-- node of the goal that it asks, the questions of each node's edges show its goal by the rule, and every
-- closed walk has the kind.
pub record IsGraph {I : Type 0} (rule : I → List (Question I) → Type 0) (kind : PathKind) (nodes : List (GraphNode I))
    (root : ℕ) (goal : I) : Type 0 where
  pub rooted : HasGoal nodes root goal
  pub closed : (at : ℕ) (e : Edge I) → IsReached nodes root at → HasEdge nodes at e → HasGoal nodes e.target e.input
  pub is_shown : (at : ℕ) (n : GraphNode I) → IsReached nodes root at → slice_get nodes at ≡ Some n
      → rule n.goal (map question_of n.edges)
  pub cycles : (at : ℕ) (e : Edge I) (rest : List (Edge I)) → IsReached nodes root at
      → IsWalk nodes at (e ∷ rest) at → walk_kind (e ∷ rest) ≡ kind

-- each goal is proved by its questions, and every cycle is coinductive
abbrev pub IsProofGraph : {I : Type 0} → (I → List (Question I) → Type 0) → List (GraphNode I) → ℕ → I → Type 0
IsProofGraph proves = IsGraph proves Coinductive

-- each goal is refuted by its questions, and every cycle is inductive
abbrev pub IsRefutationGraph : {I : Type 0} → (I → List (Question I) → Type 0) → List (GraphNode I) → ℕ → I → Type 0
IsRefutationGraph refutes = IsGraph refutes Inductive

-- the edge with the original of its target
abbrev pub original_edge : {I : Type 0} → (ℕ → ℕ) → Edge I → Edge I
original_edge original e = record { kind = e.kind; input = e.input; target = original e.target }

-- Each node of the copy has the goal and the edges of its original, and its edges stay in the copy.
pub record IsCopy {I : Type 0} (nodes copy : List (GraphNode I)) (original : ℕ → ℕ) : Type 0 where
  pub same : (at : ℕ) (n : GraphNode I) → slice_get copy at ≡ Some n
      → slice_get nodes (original at) ≡ Some (record { goal = n.goal; edges = map (original_edge original) n.edges })
  pub inside : (at : ℕ) (e : Edge I) → HasEdge copy at e → e.target < length copy
