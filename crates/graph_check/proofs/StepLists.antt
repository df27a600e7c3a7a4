-- The steps from each node, read from its edges one node after another.
use Rattle.std.proofs.Common.{◌≡◌, ℕ, ◌+◌, List, [], ◌∷◌, ◌++◌, take, sym, ap, ◌∙◌}
use Rattle.std.proofs.lemmas.List.{map-append, take_more}
use Rattle.std.specs.Global.{Vec}
use Rattle.graph_check.specs.Below.{Node, PathKind, goal_node_of, goal_nodes_of, successor_lists}
use Rattle.graph_check.specs.Words.{steps_over, targets_over}
use Rattle.graph_check.proofs.Elements.{IsAt}

module _ {I R : Type 0} (most : PathKind) (nodes : List (Node I R)) (i : ℕ)
    (node : Node I R) (at : IsAt nodes i node) where
  -- the steps from one node more
  steps_from_more : steps_over most (goal_nodes_of (take (i + 1) nodes))
      ≡ steps_over most (goal_nodes_of (take i nodes)) ++ targets_over most node.edges.items ∷ []
  steps_from_more =
      ap (λ list. steps_over most (goal_nodes_of list))
      (take_more nodes i node at.below ∙ ap (λ n. take i nodes ++ n ∷ []) (sym at.is))
      ∙ ap (steps_over most) (map-append goal_node_of (take i nodes) (node ∷ []))
      ∙ map-append (λ n. targets_over most n.edges) (goal_nodes_of (take i nodes)) (goal_node_of node ∷ [])

  pub steps_more : (steps new : List (Vec ℕ)) (targets : Vec ℕ)
      → successor_lists steps ≡ steps_over most (goal_nodes_of (take i nodes))
      → targets.items ≡ targets_over most node.edges.items → new ≡ steps ++ targets ∷ []
      → successor_lists new ≡ steps_over most (goal_nodes_of (take (i + 1) nodes))
  steps_more steps new targets so_far made pushed =
      ap successor_lists pushed
      ∙ map-append (λ (successors : Vec ℕ). successors.items) steps (targets ∷ [])
      ∙ ap (λ list. list ++ targets.items ∷ []) so_far
      ∙ ap (λ list. steps_over most (goal_nodes_of (take i nodes)) ++ list ∷ []) made
      ∙ sym steps_from_more
