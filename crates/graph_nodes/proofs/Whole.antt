-- A node of which all that it reaches is finished stays one.
use Rattle.std.proofs.Common.{◌≡◌, ℕ, List, [], ◌∷◌, Option, None, Some, option_map, slice_get, Contains, refl, sym}
use Rattle.std.proofs.Common.{◌∙◌, ap, subst}
use Rattle.std.specs.Option.{IsSome, IsSomeAnd, is_some}
use Rattle.std.proofs.lemmas.Option.{slice_get-map}
use Rattle.graph_nodes.specs.Below.{Edge, IsWalk, IsReached}
use Rattle.graph_nodes.specs.Words.{CacheNode, finished_node, KeepsFinished, graph_node_of, graph_nodes_of}
use Rattle.graph_nodes.specs.Words.{IsWhole, KeepsWhole}
use Rattle.graph_nodes.proofs.Finished.{found_finished}
use Rattle.search_context.proofs.Graphs.{IsReached-step}

-- a finished node, as one that is there
pub finished_is : {I R : Type 0} (o : Option (CacheNode I R)) → IsSome o → (n : CacheNode I R) × (o ≡ Some n)
finished_is None h = absurd cc
finished_is (Some n) h = (n, refl)

module _ {I R : Type 0} (old new : List (CacheNode I R)) (kept : KeepsFinished old new) where
  -- a finished node is the same as before
  same_there : (at : ℕ) → IsSome (finished_node old at) → (n : CacheNode I R) × (finished_node old at ≡ Some n)
      × (slice_get (graph_nodes_of new) at ≡ slice_get (graph_nodes_of old) at)
  same_there at h =
      let n = finished_is (finished_node old at) h in (
        n.0,
        n.1,
        slice_get-map graph_node_of new at
            ∙ (ap (option_map graph_node_of)
            (found_finished (slice_get new at) n.0 (kept at n.0 n.1) ∙ sym (found_finished (slice_get old at) n.0 n.1))
            ∙ sym (slice_get-map graph_node_of old at)),
      )

  -- what is reached now was reached before
  reached_before : (root : ℕ) → IsWhole old root → (from to : ℕ) (walk : List (Edge I))
      → IsReached (graph_nodes_of old) root from → IsWalk (graph_nodes_of new) from walk to
      → IsReached (graph_nodes_of old) root to
  reached_before root whole from to [] r w = subst (IsReached (graph_nodes_of old) root) w r
  reached_before root whole from to (e ∷ walk) r w =
      let n = same_there from (whole from r) in
      reached_before root whole e.target to walk
      (IsReached-step (graph_nodes_of old) root from e r
      (subst (λ o. IsSomeAnd o (λ m. Contains m.edges e)) n.2 w.0)) w.1

  pub whole_stays : KeepsWhole old new
  whole_stays root whole at w =
      let n = finished_is (finished_node old at) (whole at (reached_before root whole root at w.0 ([], refl) w.1)) in
      ap is_some (kept at n.0 n.1)
