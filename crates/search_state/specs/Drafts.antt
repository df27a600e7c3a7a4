-- The nodes that a call writes, and which of them are let go.
use Rattle.std.specs.Prelude.{◌≡◌, ◌≤◌, [], ℕ, Bool, length, List, slice_get}
use Rattle.global_cache.specs.Rooted.{AreRooted}
use Rattle.graph_nodes.specs.Held.{IsGone}
pub use Rattle.graph_nodes.specs.Collected.{with_root as noted}
use Rattle.search_state.specs.Below.{Cache, CacheNode, graph_nodes_of, IsReached, NodeId}
use Rattle.search_state.specs.declared.drafts.Drafts.{Drafts}

-- a call begins now, so it has stored no result
pub record HasNoDrafts {I R : Type 0} (nodes : List (CacheNode I R)) (drafts : Drafts) : Type 0 where
  pub first : drafts.first ≡ length nodes
  pub none : drafts.stored.items ≡ []

-- each node from this place on that is not gone is reached from a node of which this holds
abbrev pub LeavesReached : {C I R T : Type 0} → ℕ → (NodeId → Type 0) → Cache C I R T → Type 0
LeavesReached first IsRoot cache =
    (at : ℕ) → first ≤ at → ¬ IsGone (slice_get cache.nodes at)
    → (root : NodeId) × IsRoot root × IsReached (graph_nodes_of cache.nodes) root.0 at

module _ {C I R T : Type 0} (same : I → I → Bool) where
  -- the node of each stored result was there when the call began, or is noted
  abbrev pub AreNotedNodes : Cache C I R T → Drafts → Type 0
  AreNotedNodes cache drafts = AreRooted same drafts.first drafts.stored.items cache.results

  -- this stays so, of the same call
  pub record KeepsNoted (old : Cache C I R T) (before : Drafts)
      (new : Cache C I R T) (after : Drafts) : Type 0 where
    pub first : after.first ≡ before.first
    pub noted_are : AreNotedNodes old before → AreNotedNodes new after
