-- What is left of the nodes that a call wrote.
use Rattle.std.specs.Prelude.{◌≡◌, Bool, List, Some}
use Rattle.search_context.specs.declared.context.Fault.TheVariants.{Conflict, Validation}
use Rattle.search_graph.specs.Below.{Cache, CacheNode, Fault, HasGraph, NodeId, Place, stored_at}
use Rattle.search_graph.specs.Below.{StoredResult, Verdicts}

module _ {C I R T : Type 0} (says : Verdicts R) where
  -- the node shows a result that is stored: it is the result's own, or was that of an equal one
  -- which stood in its place
  pub record ShowsStored (same : I → I → Bool) (cache : Cache C I R T) (node : NodeId) : Type 0 where
    pub goal : I
    pub place : Place
    pub stored : StoredResult I R T
    pub is_stored : stored_at same cache.results goal place ≡ Some stored
    pub shows : HasGraph says cache.nodes goal stored.result.result (Some node)

-- the node shows the result that the fault tells beside a stored one
abbrev pub ShowsFound : {I R : Type 0} → Verdicts R → List (CacheNode I R) → Fault I R → NodeId → Type 0
ShowsFound says nodes (Conflict goal stored found) node = HasGraph says nodes goal found (Some node)
ShowsFound says nodes (Validation goal stored found) node = HasGraph says nodes goal found (Some node)
ShowsFound says nodes fault node = ⊥
