-- Stored results stay sound when other nodes are let go than theirs.
use Rattle.std.proofs.Common.{ℕ, Bool, List}
use Rattle.global_cache.specs.Below.{NodeId, Request, Reply, Verdicts, CacheNode, AreLive, Collected}
use Rattle.global_cache.specs.Words.{StoredResult, AreRooted, AreSoundResults, Store}
use Rattle.graph_nodes.proofs.Collecting.{HasGraph-live, root_is_live}

module _ {I R : Type 0} (live : ℕ → Bool) (old new : List (CacheNode I R)) (collected : Collected live old new)
    (says : Verdicts R) (scripts : I → List (Reply R) → Request I R) where
  pub AreSoundResults-collected : {T : Type 0} (same : I → I → Bool) (first : ℕ) (roots : List NodeId)
      (results : Store I (StoredResult I R T)) → AreLive old first roots live → AreRooted same first roots results
      → AreSoundResults same says scripts old results → AreSoundResults same says scripts new results
  AreSoundResults-collected same first roots results lives rooted sound input place s is =
      let k = sound input place s is in
      record {
        graph = HasGraph-live live old new collected says input s.result.result s.node
            (root_is_live live old first roots lives input s.node (rooted input place s is)) k.graph;
        plain = k.plain;
      }
