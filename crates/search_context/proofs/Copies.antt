-- A copy of what is reached from a root, with other numbers, is a graph of the same goal.
use Rattle.std.proofs.Common.{◌≡◌, ℕ, ◌<◌, List, [], ◌∷◌, map, length, slice_get, Option, None, Some, option_map}
use Rattle.std.proofs.Common.{Contains, refl, sym, ◌∙◌, ap, subst, arith, inl, inr}
use Rattle.std.specs.Option.{IsSomeAnd}
use Rattle.std.proofs.lemmas.Option.{slice_get_cases, slice_get_within, slice_get-map}
use Rattle.list_lemmas.proofs.Members.{Contains-mapped}
use Rattle.search_context.specs.Below.{greater_kind}
use Rattle.search_context.specs.Words.{Edge, Node, goal_node_of, goal_nodes_of, GraphNode, question_of, HasGoal}
use Rattle.search_context.specs.Words.{HasEdge, IsWalk, walk_kind, original_edge, IsCopy}
use Rattle.list_lemmas.proofs.Lists.{mapped_some}
use Rattle.search_context.proofs.Graphs.{goal_node}

-- what is at a place inside the list
pub item_at : {A : Type 0} (xs : List A) (at : ℕ) → at < length xs → (x : A) × (slice_get xs at ≡ Some x)
item_at xs at l = elim (slice_get_cases xs at).1 [ inl there ↦ (there.0, there.2) | inr past ↦ absurd (omega arith) ]

-- the node of an edge
pub edge_node : {I : Type 0} (o : Option (GraphNode I)) (e : Edge I) → IsSomeAnd o (λ n. Contains n.edges e)
    → (n : GraphNode I) × (o ≡ Some n) × Contains n.edges e
edge_node None e h = absurd h
edge_node (Some n) e h = (n, refl, h)

pub HasEdge-within : {I : Type 0} (nodes : List (GraphNode I)) (at : ℕ) (e : Edge I)
    → HasEdge nodes at e → at < length nodes
HasEdge-within nodes at e has = let n = edge_node (slice_get nodes at) e has in slice_get_within nodes at n.0 n.1

-- an edge is one of the node at its place
pub node_with_edge : {I R : Type 0} (nodes : List (Node I R)) (at : ℕ) (e : Edge I) → HasEdge (goal_nodes_of nodes) at e
    → (n : Node I R) × (slice_get nodes at ≡ Some n) × Contains n.edges.items e
node_with_edge nodes at e has =
    let g = edge_node (slice_get (goal_nodes_of nodes) at) e has in
    let n = mapped_some goal_node_of (slice_get nodes at) g.0 (sym (slice_get-map goal_node_of nodes at) ∙ g.1) in
    (n.0, n.1, subst (λ m. Contains m.edges e) (sym n.2) g.2)

pub same_questions : {I : Type 0} (original : ℕ → ℕ) (edges : List (Edge I))
    → map question_of (map (original_edge original) edges) ≡ map question_of edges
same_questions original [] = refl
same_questions original (e ∷ edges) = ap (λ qs. question_of e ∷ qs) (same_questions original edges)

pub same_walk_kind : {I : Type 0} (original : ℕ → ℕ) (walk : List (Edge I))
    → walk_kind (map (original_edge original) walk) ≡ walk_kind walk
same_walk_kind original [] = refl
same_walk_kind original (e ∷ walk) = ap (greater_kind e.kind) (same_walk_kind original walk)

module _ {I : Type 0} (nodes copy : List (GraphNode I)) (original : ℕ → ℕ) (c : IsCopy nodes copy original) where
  pub original_has : (at : ℕ) (e : Edge I) → HasEdge copy at e → HasEdge nodes (original at) (original_edge original e)
  original_has at e h =
      let n = edge_node (slice_get copy at) e h in
      subst (λ o. IsSomeAnd o (λ m. Contains m.edges (original_edge original e))) (sym (c.same at n.0 n.1))
      (Contains-mapped (original_edge original) n.0.edges e n.2)

  pub original_walk : (from to : ℕ) (walk : List (Edge I)) → IsWalk copy from walk to
      → IsWalk nodes (original from) (map (original_edge original) walk) (original to)
  original_walk from to [] w = ap original w
  original_walk from to (e ∷ walk) w = (original_has from e w.0, original_walk e.target to walk w.1)

  pub copy_goal : (at : ℕ) (goal : I) → at < length copy → HasGoal nodes (original at) goal → HasGoal copy at goal
  copy_goal at goal l h =
      let n = item_at copy at l in
      let m = goal_node (slice_get nodes (original at)) goal h in
      let both : Some (record { goal = n.0.goal; edges = map (original_edge original) n.0.edges }) ≡ Some m.0 =
      sym (c.same at n.0 n.1) ∙ m.1 in
      let same : record { goal = n.0.goal; edges = map (original_edge original) n.0.edges } ≡ m.0 = cc in
      ap (option_map (λ x. x.goal)) n.1 ∙ ap Some (ap (λ x. x.goal) same ∙ m.2)
