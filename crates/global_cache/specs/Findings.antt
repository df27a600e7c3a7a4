-- What a cache has found out, and what makes it worth keeping. It names no context: goals, results and tokens alone.
use Rattle.std.specs.Prelude.{Bool, List}
use Rattle.search_context.specs.Verdicts.{Verdicts}
use Rattle.search_context.specs.declared.context.Reply.{Reply}
use Rattle.search_context.specs.declared.context.Request.{Request}
use Rattle.graph_nodes.specs.Nodes.{AreRuns, CacheNode}
use Rattle.global_cache.specs.declared.results.StoredResult.{StoredResult}
use Rattle.global_cache.specs.Store.{Store}
use Rattle.global_cache.specs.Stored.{AreSoundResults}

-- the nodes by their numbers, and the stored results
pub record Findings (I R T : Type 0) : Type 0 where
  pub nodes : List (CacheNode I R)
  pub results : Store I (StoredResult I R T)

-- by these scripts each node that is finished is a run of its goal, and each stored result has its graph and is plain
pub record AreSoundFindings {I R T : Type 0} (same : I → I → Bool) (says : Verdicts R)
    (scripts : I → List (Reply R) → Request I R) (found : Findings I R T) : Type 0 where
  pub runs : AreRuns says scripts found.nodes
  pub results : AreSoundResults same says scripts found.nodes found.results
