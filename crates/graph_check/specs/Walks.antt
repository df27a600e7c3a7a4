-- Closed walks, and the steps of a graph over some kinds of edges.
use Rattle.std.specs.Prelude.{◌≡◌, ℕ, ◌<◌, ◌≤◌, ◌==◌, nat_le, Bool, ◌&&◌, List, ◌∷◌, map, filter, slice_index}
use Rattle.graph_check.specs.Below.{PathKind, rank_of, Edge, GraphNode, HasEdge, IsWalk, walk_kind}

-- the kind comes before or after another one
abbrev pub IsLesser : PathKind → PathKind → Type 0
IsLesser than kind = rank_of kind < rank_of than

abbrev pub IsGreater : PathKind → PathKind → Type 0
IsGreater than kind = rank_of than < rank_of kind

-- the kind is one from `least` to `most`
pub record IsBetween (least most kind : PathKind) : Type 0 where
  pub from_least : rank_of least ≤ rank_of kind
  pub to_most : rank_of kind ≤ rank_of most

-- some closed walk has a kind of which the fact holds
pub record HasCycle {I : Type 0} (IsOf : PathKind → Type 0) (nodes : List (GraphNode I)) : Type 0 where
  pub place : ℕ
  pub edge : Edge I
  pub rest : List (Edge I)
  pub closed : IsWalk nodes place (edge ∷ rest) place
  pub kind : IsOf (walk_kind (edge ∷ rest))

-- where the edges of kinds up to `most` lead
abbrev pub targets_over : {I : Type 0} → PathKind → List (Edge I) → List ℕ
targets_over most edges = map (λ e. e.target) (filter (λ e. nat_le (rank_of e.kind) (rank_of most)) edges)

-- the graph of the edges of kinds up to `most`
abbrev pub steps_over : {I : Type 0} → PathKind → List (GraphNode I) → List (List ℕ)
steps_over most nodes = map (λ n. targets_over most n.edges) nodes

-- some edge of a kind from `least` to `most` leads to a node of the same number
pub record HasInnerEdge {I : Type 0} (numbers : List ℕ) (least most : PathKind)
    (nodes : List (GraphNode I)) : Type 0 where
  pub place : ℕ
  pub edge : Edge I
  pub has : HasEdge nodes place edge
  pub kind : IsBetween least most edge.kind
  pub same : slice_index numbers place ≡ slice_index numbers edge.target

-- the edge is of a kind from `least` to `most`, and leads to a node of this number
abbrev pub leads_to : {I : Type 0} → List ℕ → ℕ → PathKind → PathKind → Edge I → Bool
leads_to numbers number least most e =
    nat_le (rank_of least) (rank_of e.kind) && nat_le (rank_of e.kind) (rank_of most)
    && slice_index numbers e.target == number
