-- Each node of a graph that is handed out is reached from the first.
use Rattle.std.proofs.Common.{◌≡◌, ◌∙◌, ◌<◌, ℕ, ap, arith, length, List, [], ◌∷◌, map, refl, Some, subst, sym}
use Rattle.std.specs.Prelude.{Contains, IsSomeAnd, slice_get, slice_index}
use Rattle.std.specs.Option.{option_map}
use Rattle.std.proofs.lemmas.Option.{get_or_from_slice_get, slice_get-map}
use Rattle.graph_nodes.specs.Nodes.{CacheNode, graph_node_of, graph_nodes_of}
use Rattle.graph_nodes.specs.HandedOut.{Copies, IsCopyFrom, original_node}
use Rattle.graph_nodes.proofs.HandedOut.{original_there}
use Rattle.search_context.proofs.Graphs.{Contains-map, HasEdge-from, IsReached-step}
use Rattle.search_context.specs.Graph.{HasEdge, IsReached, IsWalk, original_edge}
use Rattle.search_context.specs.Valid.{goal_node_of, goal_nodes_of}
use Rattle.search_context.specs.declared.context.Edge.{Edge}
use Rattle.graph_data.proofs.Lists.{item_at}
use Rattle.shown_graphs.specs.Below.{Goal, Node, Outcome}
use Rattle.graph_pages.specs.Checked.{AreReached}

module _ (nodes : List (CacheNode Goal Outcome)) (root : ℕ) (copy : List (Node Goal Outcome)) (numbers : List ℕ)
    (c : Copies nodes root copy numbers) where
  -- a place of the copy that is reached in it, and stands for this node
  record Found (at : ℕ) : Type 0 where
    place : ℕ
    within : place < length copy
    stands : slice_index numbers place ≡ at
    is_reached : IsReached (goal_nodes_of copy) 0 place

  next_found : (place : ℕ) (e : Edge Goal) → place < length copy → IsReached (goal_nodes_of copy) 0 place
      → HasEdge (graph_nodes_of nodes) (slice_index numbers place) e → Found e.target
  next_found place e within reached has =
      let n = item_at copy place within in
      let there : slice_get (graph_nodes_of nodes) (slice_index numbers place)
      ≡ Some (graph_node_of (original_node (slice_index numbers) n.0)) =
      slice_get-map graph_node_of nodes (slice_index numbers place)
      ∙ ap (option_map graph_node_of) (original_there nodes root copy numbers c place n.0 n.1) in
      let inner : Contains (map (original_edge (slice_index numbers)) n.0.edges.items) e =
      subst (λ o. IsSomeAnd o (λ m. Contains m.edges e)) there has in
      let w = Contains-map (original_edge (slice_index numbers)) n.0.edges.items e inner in
      let copied : HasEdge (goal_nodes_of copy) place w.0 =
      HasEdge-from (goal_nodes_of copy) place (goal_node_of n.0) w.0
      (slice_get-map goal_node_of copy place ∙ ap (option_map goal_node_of) n.1) w.1 in
      record {
        place = w.0.target;
        within = c.inside place w.0 copied;
        stands = ap (λ x. x.target) w.2;
        is_reached = IsReached-step (goal_nodes_of copy) 0 place w.0 reached copied;
      }

  walk_found : (from to : ℕ) (walk : List (Edge Goal)) → Found from
      → IsWalk (graph_nodes_of nodes) from walk to → Found to
  walk_found from to [] found w = subst Found w found
  walk_found from to (e ∷ walk) found w =
      walk_found e.target to walk (next_found found.place e found.within found.is_reached
      (subst (λ x. HasEdge (graph_nodes_of nodes) x e) (sym found.stands) w.0)) w.1

  root_found : 0 < length copy → Found root
  root_found some = record {
    place = 0;
    within = some;
    stands = get_or_from_slice_get numbers 0 root 0 c.rooted;
    is_reached = ([], refl);
  }

  each_reached : AreReached copy
  each_reached at within =
      let w = c.reached at within in
      let found = walk_found root (slice_index numbers at) w.0 (root_found (omega arith)) w.1 in
      subst (IsReached (goal_nodes_of copy) 0) (c.once found.place at found.within within found.stands) found.is_reached

pub are_reached : (nodes : List (CacheNode Goal Outcome)) (root : ℕ) (copy : List (Node Goal Outcome))
    → IsCopyFrom nodes root copy → AreReached copy
are_reached nodes root copy c = each_reached nodes root copy c.0 c.1
