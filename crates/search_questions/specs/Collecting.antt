-- Nodes that a call wrote are let go once nothing leads to them any more.
use Rattle.std.specs.Prelude.{◌≡◌, ◌<◌, ◌⊎◌, ℕ, All, Bool, Contains, IsTrue, List, Option, slice_get, Some}
use Rattle.std.specs.Option.{IfSome}
use Rattle.open_goals.specs.Nodes.{HasNodes}
use Rattle.graph_nodes.specs.Collected.{Collected}
use Rattle.search_questions.specs.Below.{Cache, entries_at, NodeId, runs_of, LeavesReached, noted}
use Rattle.search_state.specs.declared.evaluation.Evaluation.{Evaluation}
use Rattle.search_rules.specs.Live.{AreLiveEntries, AreLiveResults, AreLiveRuns, IsLiveNode}

module _ {D C V P F I R A T : Type 0} (same : I → I → Bool) where
  -- these are among the roots: the noted nodes and this one, and those to which the goals under evaluation and the
  -- provisional entries lead
  pub record HasRoots (e : Evaluation D C V P F I R A T) (target : Option NodeId) (roots : List NodeId) : Type 0 where
    pub noted_are : (node : NodeId) → Contains (noted target e.drafts.stored.items) node → Contains roots node
    pub goals : All (HasNodes roots) e.goals
    pub entries : (goal : I) → All (λ entry. IfSome entry.node (Contains roots)) (entries_at same e.provisional goal)

  -- Nodes are let go, but none that was there before the call, and none to which the goals under evaluation, the reply
  -- for the newest one, the provisional entries or the stored results lead.
  pub record LetsGo (e : Evaluation D C V P F I R A T) (target : Option NodeId)
      (old new : Cache C I R T) : Type 0 where
    pub live : ℕ → Bool
    pub collected : Collected live old.nodes new.nodes
    pub goals : AreLiveRuns live (runs_of e.goals)
    pub entries : AreLiveEntries live same e.provisional
    pub results : AreLiveResults live same old.results
    pub noted_are : (node : NodeId) → Contains e.drafts.stored.items node → IsTrue (live node.0)
    pub reply : IsLiveNode live target
    pub earlier : (at : ℕ) → at < e.drafts.first → slice_get new.nodes at ≡ slice_get old.nodes at
    pub rest : new ≡ record old { nodes = new.nodes }

  -- nodes are let go at the end of a call, but none that was there before, and none to which the answer, stored
  -- results or noted nodes lead
  pub record LetsGoAtEnd (e : Evaluation D C V P F I R A T) (target : Option NodeId)
      (old new : Cache C I R T) : Type 0 where
    pub live : ℕ → Bool
    pub collected : Collected live old.nodes new.nodes
    pub results : AreLiveResults live same old.results
    pub noted_are : (node : NodeId) → Contains e.drafts.stored.items node → IsTrue (live node.0)
    pub answer : IsLiveNode live target
    pub earlier : (at : ℕ) → at < e.drafts.first → slice_get new.nodes at ≡ slice_get old.nodes at
    pub rest : new ≡ record old { nodes = new.nodes }
    pub leaves : LeavesReached e.drafts.first (λ root. (target ≡ Some root) ⊎ Contains e.drafts.stored.items root) new
