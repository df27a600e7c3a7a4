-- What a cache holds: its context, the list of nodes of which graphs of answers are made, and the
-- results that are stored.
use Rattle.std.specs.Prelude.{List}
use Rattle.graph_nodes.specs.Nodes.{CacheNode}
use Rattle.global_cache.specs.declared.results.StoredResult.{StoredResult}
use Rattle.global_cache.specs.Store.{Store}

-- the context, the nodes by their numbers, and the stored results
pub record Cache (X I R T : Type 0) : Type 0 where
  pub cx : X
  pub nodes : List (CacheNode I R)
  pub results : Store I (StoredResult I R T)
