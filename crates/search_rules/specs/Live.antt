-- What goals under evaluation, provisional entries, stored results and replies lead to is live: it stays when
-- other nodes are let go.
use Rattle.std.specs.Prelude.{◌≡◌, ℕ, All, Bool, IsTrue, List, [], ◌∷◌, Option, slice_get, Some}
use Rattle.std.specs.Option.{IfSome}
use Rattle.search_rules.specs.Below.{DefiniteAnswer, entries_at, Lists, NodeId, Place, ProvisionalCacheEntry, Store}
use Rattle.search_rules.specs.Below.{stored_at, StoredResult}
use Rattle.search_rules.specs.Justified.{OpenRun}

module _ (live : ℕ → Bool) where
  -- the node is live, if there is one
  abbrev pub IsLiveNode : Option NodeId → Type 0
  IsLiveNode node = IfSome node (λ n. IsTrue (live n.0))

  -- the goal's own node, the one to which its cycles lead, and those of its run's answers are live
  pub record IsLiveRun {I R : Type 0} (o : OpenRun I R) : Type 0 where
    pub own : IsTrue (live o.own)
    pub cycles : IsLiveNode o.cycles_lead
    pub answers : (i : ℕ) (a : DefiniteAnswer I) → slice_get o.answers i ≡ Some a → IsTrue (live a.edge.target)

  -- the same of all goals
  abbrev pub AreLiveRuns : {I R : Type 0} → List (OpenRun I R) → Type 0
  AreLiveRuns [] = Unit {0}
  AreLiveRuns (o ∷ below) = IsLiveRun o × AreLiveRuns below

  -- the same of all entries
  abbrev pub AreLiveEntries : {X I R A T : Type 0} → (I → I → Bool) → Lists I (ProvisionalCacheEntry X I R A T) → Type 0
  AreLiveEntries {I = I} same lists = (goal : I) → All (λ entry. IsLiveNode entry.node) (entries_at same lists goal)

  -- the same of all stored results
  abbrev pub AreLiveResults : {I R T : Type 0} → (I → I → Bool) → Store I (StoredResult I R T) → Type 0
  AreLiveResults {I} {R} {T} same results =
      (goal : I) (place : Place) (s : StoredResult I R T)
      → stored_at same results goal place ≡ Some s → IsLiveNode s.node
