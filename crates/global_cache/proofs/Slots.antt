-- The cache's list of nodes in the words of its clauses: what a call of the list makes of the cache.
use Rattle.std.proofs.Common.{◌≡◌, ℕ, Bool, List, Option, None, Some, IsSome, slice_get, refl, sym, ◌∙◌, ap, subst}
use Rattle.std.specs.Prelude.{IfSome}
use Rattle.std.specs.Option.{option_map}
use Rattle.global_cache.specs.Below.{Node, Request, Reply, Verdicts, EndedRun, CacheNode, finished_node, open_goal}
use Rattle.global_cache.specs.Below.{with_run, IsRun, AreRuns, run_of, ended_node}
use Rattle.global_cache.specs.Words.{StoredResult, Cache, Store}
use Rattle.graph_nodes.proofs.Finished.{found_finished}
use Rattle.graph_nodes.proofs.NodeLists.{appended}

-- a cache whose context, nodes and results are these
module _ {X I R T : Type 0} (cx : X) (nodes : List (CacheNode I R)) (results : Store I (StoredResult I R T))
    (cache : Cache X I R T) (view : record { cx = cx; nodes = nodes; results = results } ≡ cache) where
  module _ (grew : Bool) (goal : I) (more : List (CacheNode I R)) (is : more ≡ appended grew nodes goal) where
    pub nodes_pushed : more ≡ appended grew cache.nodes goal
    nodes_pushed = is ∙ ap (λ c. appended grew c.nodes goal) view

    -- what the whole cache is then
    pub cache_pushed : record { cx = cx; nodes = more; results = results }
        ≡ record cache { nodes = appended grew cache.nodes goal }
    cache_pushed = λ i. record { cx = (view i).cx; nodes = nodes_pushed i; results = (view i).results }

  module _ (k : ℕ) (run : EndedRun I R) where
    pub open_there : IsSome (open_goal cache.nodes k) → IsSome (open_goal nodes k)
    open_there is_open = subst (λ (c : Cache X I R T). IsSome (open_goal c.nodes k)) (sym view) is_open

    module _ (more : List (CacheNode I R)) (is : more ≡ with_run nodes k run) where
      pub nodes_ended : more ≡ with_run cache.nodes k run
      nodes_ended = is ∙ ap (λ (c : Cache X I R T). with_run c.nodes k run) view

      -- what the whole cache is then
      pub cache_ended : record { cx = cx; nodes = more; results = results }
          ≡ record cache { nodes = with_run cache.nodes k run }
      cache_ended = λ i. record { cx = (view i).cx; nodes = nodes_ended i; results = (view i).results }

  -- a finished node that is lent is a run of its goal
  pub lent_is_run : {A : Type 0} (now : A → Node I R) (says : Verdicts R)
      (scripts : X → I → List (Reply R) → Request I R) (at : ℕ) (lent : Option A)
      → AreRuns says (scripts cx) nodes → option_map (λ n. ended_node (now n)) lent ≡ finished_node nodes at
      → IfSome lent (λ n. IsRun says (scripts cache.cx (now n).input) cache.nodes (run_of (now n)))
  lent_is_run now says scripts at None runs is = tt
  lent_is_run now says scripts at (Some n) runs is =
      subst (λ c. IsRun says (scripts c.cx (now n).input) c.nodes (run_of (now n))) view
      (runs at (ended_node (now n)) (run_of (now n))
      (found_finished (slice_get nodes at) (ended_node (now n)) (sym is)) refl)
