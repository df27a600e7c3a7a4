-- Nodes of a graph by their places.
use Rattle.std.proofs.Common.{◌≡◌, ℕ, ◌+◌, ◌<◌, ◌≤◌, inl, inr, ◌↔◌, Bool, true, List, Some, option_map, slice_get}
use Rattle.std.proofs.Common.{get_or, length, All, Contains, IsTrue, sym, ◌∙◌, ap, subst, arith}
use Rattle.std.proofs.lemmas.Bool.{cases_lt}
use Rattle.std.proofs.lemmas.Option.{slice_get-map, slice_get_past, same_Some, none-some}
use Rattle.std.proofs.lemmas.List.Elements.{All-contains, Contains-get_or}
use Rattle.std.specs.Cmp.{IsEquivalence}
use Rattle.std.specs.Option.{IsSomeAnd}
use Rattle.search_context.proofs.Copies.{node_with_edge}
use Rattle.graph_check.specs.Below.{Edge, Node, GraphNode, HasGoal, HasEdge, AreClosed, goal_node_of, goal_nodes_of}

module _ {I R : Type 0} (nodes : List (Node I R)) where
  -- a place has the goal of its node
  pub goal_there : (at : ℕ) (n : Node I R) → slice_get nodes at ≡ Some n
      → option_map (λ (m : GraphNode I). m.goal) (slice_get (goal_nodes_of nodes) at) ≡ Some n.input
  goal_there at n is =
      ap (option_map (λ m. m.goal)) (slice_get-map goal_node_of nodes at ∙ ap (option_map goal_node_of) is)

  -- a place has the edges of its node
  pub edge_there : (at : ℕ) (n : Node I R) (e : Edge I) → slice_get nodes at ≡ Some n → Contains n.edges.items e
      → HasEdge (goal_nodes_of nodes) at e
  edge_there at n e is has =
      subst (λ o. IsSomeAnd o (λ m. Contains m.edges e))
      (sym (slice_get-map goal_node_of nodes at ∙ ap (option_map goal_node_of) is)) has

  -- the test of a node's goal tells whether the place has the goal
  pub goal_is_tested : (eq : I → I → Bool) → IsEquivalence eq → ((x y : I) → eq x y ≡ true → x ≡ y)
      → (at : ℕ) (n : Node I R) (goal : I) (found : Bool) → slice_get nodes at ≡ Some n → found ≡ eq n.input goal
      → IsTrue found ↔ HasGoal (goal_nodes_of nodes) at goal
  goal_is_tested eq laws same at n goal found is test = (
    λ h. goal_there at n is ∙ ap Some (same n.input goal (sym test ∙ h)),
    λ h. test ∙ (ap (eq n.input) (sym (same_Some n.input goal (sym (goal_there at n is) ∙ h))) ∙ laws.refl n.input),
  )

  pub no_goal_at : (at : ℕ) (goal : I) → length nodes ≤ at → HasGoal (goal_nodes_of nodes) at goal → ⊥
  no_goal_at at goal past h =
      none-some goal (ap (option_map (λ m. m.goal))
      (sym (slice_get-map goal_node_of nodes at ∙ ap (option_map goal_node_of) (slice_get_past nodes at past))) ∙ h)

  -- the edges of the nodes so far reach their goals, and so do those of one more
  pub closed_more : (index : ℕ) (n : Node I R) → slice_get nodes index ≡ Some n
      → ((at : ℕ) (e : Edge I) → at < index → HasEdge (goal_nodes_of nodes) at e
      → HasGoal (goal_nodes_of nodes) e.target e.input)
      → All (λ e. HasGoal (goal_nodes_of nodes) e.target e.input) n.edges.items
      → (at : ℕ) (e : Edge I) → at < index + 1 → HasEdge (goal_nodes_of nodes) at e
      → HasGoal (goal_nodes_of nodes) e.target e.input
  closed_more index n is earlier here at e lt has = elim (cases_lt at index) [
    | inl below ↦ earlier at e below has
    | inr above ↦
        let same : at ≡ index = omega arith in
        let own = node_with_edge nodes at e has in
        let one : own.0 ≡ n = same_Some own.0 n (sym own.1 ∙ (ap (slice_get nodes) same ∙ is)) in
        All-contains (λ x. HasGoal (goal_nodes_of nodes) x.target x.input) n.edges.items e here
        (subst (λ (m : Node I R). Contains m.edges.items e) one own.2)
  ]

  -- in a closed graph each node's edges reach their goals
  pub closed_at : (at : ℕ) (n : Node I R) → slice_get nodes at ≡ Some n → AreClosed (goal_nodes_of nodes)
      → All (λ e. HasGoal (goal_nodes_of nodes) e.target e.input) n.edges.items
  closed_at at n is closed = λ k d lt.
      closed at (get_or n.edges.items k d)
      (edge_there at n (get_or n.edges.items k d) is (Contains-get_or n.edges.items k d lt))
