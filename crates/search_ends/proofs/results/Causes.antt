-- The cause of a fault lasts when nodes are let go to which neither stored results nor noted nodes lead.
use Rattle.std.proofs.Common.{◌≡◌, ℕ, Bool, true, false, Contains, List, Ok, Err, Option, Result, subst, sym}
use Rattle.std.specs.Prelude.{IfErr, OnErr}
use Rattle.std.specs.Cmp.{IsEquivalence}
use Rattle.std.specs.Option.{IfSome}
use Rattle.graph_nodes.proofs.Collecting.{AreRuns-collected}
use Rattle.graph_nodes.specs.Collected.{Collected}
use Rattle.search_context.proofs.Rules.{KeepsRule}
use Rattle.between_moves.proofs.LiveRoots.{live_root}
use Rattle.graph_nodes.specs.Nodes.{AreRuns}
use Rattle.global_cache.specs.Store.{AnswersStoring}
use Rattle.global_cache.specs.Stored.{AreSoundResults}
use Rattle.search_context.specs.Question.{Overlap, Question}
use Rattle.search_context.specs.declared.context.Fault.TheVariants.{Validation}
use Rattle.search_ends.specs.Below.{Cache, CacheNode, CxOf, DelegateOf, Fault, HasGraph, IsExpected, Memory, NodeId}
use Rattle.search_ends.specs.Below.{Place, stored_at, StoredResult, verdicts}
use Rattle.search_ends.specs.Storing.{HasLastingCause}
use Rattle.search_state.specs.declared.drafts.Drafts.{Drafts}
use Rattle.search_rules.proofs.collecting.Kept.{graph_stays}
use Rattle.search_rules.proofs.moves.Storing.{comparing_is_caused, storing_is_caused}
use Rattle.search_rules.specs.Claims.{ComesTo, OutOfMemory}
use Rattle.search_rules.specs.Live.{AreLiveResults, IsLiveNode}

module _ {D C V P F I R A T : Type 0} (G : DelegateOf D C V P F I R A T) (X : CxOf C I R A T) (same : I → I → Bool)
    (cache : Cache C I R T) (drafts : Drafts) where
  -- memory is out
  pub memory_lasts : (fault : Fault I R) → fault ≡ Memory → HasLastingCause G X same cache drafts fault
  memory_lasts fault is =
      record { caused = OutOfMemory is; lasts = λ live left collected results noted. OutOfMemory is }

  module _ (runs_are : AreRuns (verdicts X) (G.script cache.cx) cache.nodes)
      (clash : (goal : I) (held failed : List (Question I)) → X.proves cache.cx goal held
      → X.refutes cache.cx goal failed → Overlap held failed)
      (proves : KeepsRule X.is_yes (G.script cache.cx) (X.proves cache.cx))
      (refutes : KeepsRule X.is_no (G.script cache.cx) (X.refutes cache.cx))
      (one : (r : R) → X.is_yes r ≡ true → X.is_no r ≡ false)
      (sound : AreSoundResults same (verdicts X) (G.script cache.cx) cache.nodes cache.results) (equal : R → R → Bool)
      (laws : IsEquivalence equal) (goal : I) (found : R) (node : Option NodeId)
      (has : HasGraph (verdicts X) cache.nodes goal found node)
      (comes : ComesTo (G.script cache.cx) (G.fixpoint_overflow cache.cx) goal found) where
    -- the goal has its graph still, and so do stored results
    module _ (live : ℕ → Bool) (left : List (CacheNode I R)) (collected : Collected live cache.nodes left)
        (results : AreLiveResults live same cache.results) where
      has_still : IsLiveNode live node → HasGraph (verdicts X) left goal found node
      has_still is = graph_stays (verdicts X) live cache.nodes left collected goal found node is has

      runs_still : AreRuns (verdicts X) (G.script cache.cx) left
      runs_still = AreRuns-collected live cache.nodes left collected (verdicts X) (G.script cache.cx) runs_are

      sound_still : AreSoundResults same (verdicts X) (G.script cache.cx) left cache.results
      sound_still other place s at = record {
        graph = graph_stays (verdicts X) live cache.nodes left collected other s.result.result s.node
            (results other place s at) (sound other place s at).graph;
        plain = (sound other place s at).plain;
      }

    -- another result is stored than the goal came to, whose node was noted
    pub storing_lasts : IfSome node (Contains drafts.stored.items)
        → (place : Place) (o : Option (StoredResult I R T)) → stored_at same cache.results goal place ≡ o
        → (r : Result (Unit {0}) (Fault I R)) → AnswersStoring equal goal o found r
        → IfErr r (HasLastingCause G X same cache drafts)
    storing_lasts there place o at (Ok u) answers = tt
    storing_lasts there place o at (Err fault) answers = record {
      caused = storing_is_caused G X same cache runs_are clash proves refutes one sound equal laws goal place found
          node has comes o at (Err fault) answers;
      lasts = λ live left collected results noted.
          storing_is_caused G X same (record cache { nodes = left }) (runs_still live left collected results) clash
          proves refutes one (sound_still live left collected results) equal laws goal place found node
          (has_still live left collected results (live_root live drafts.stored.items noted node there)) comes o at
          (Err fault) answers;
    }

    -- the goal is in a scope, and came to another result than is stored
    pub comparing_lasts : IfSome node (Contains drafts.stored.items) → (stored : R)
        → IsExpected (G.scoped cache.cx) same cache.results goal stored → equal found stored ≡ false
        → HasLastingCause G X same cache drafts (Validation goal stored found)
    comparing_lasts there stored expected differs = record {
      caused = comparing_is_caused G X same cache runs_are clash proves refutes one sound equal laws goal found
          stored node has comes expected differs;
      lasts = λ live left collected results noted.
          comparing_is_caused G X same (record cache { nodes = left }) (runs_still live left collected results) clash
          proves refutes one (sound_still live left collected results) equal laws goal found stored node
          (has_still live left collected results (live_root live drafts.stored.items noted node there)) comes
          expected differs;
    }

-- where nothing changed for an error
pub lasts_after : {D C V P F I R A T U : Type 0} (G : DelegateOf D C V P F I R A T) (X : CxOf C I R A T)
    (same : I → I → Bool) (old new : Cache C I R T) (drafts : Drafts) (r : Result U (Fault I R)) → OnErr r (new ≡ old)
    → IfErr r (HasLastingCause G X same old drafts) → IfErr r (HasLastingCause G X same new drafts)
lasts_after G X same old new drafts (Ok u) unchanged h = tt
lasts_after G X same old new drafts (Err fault) unchanged h =
    subst (λ cache. HasLastingCause G X same cache drafts fault) (sym unchanged) h
