-- What a session knows once it went over to rows that changed.
use Rattle.std.specs.Prelude.{◌≡◌, ℕ, Bool, List, Option, None, Some, length, slice_get}
use Rattle.rule_arrays.specs.Changes.{IsConcerned}
use Rattle.sessions.specs.Below.{CacheNode, HasGraph, IsGone, NodeId, Outcome, Place, Store, Table, outcome_verdicts}
use Rattle.sessions.specs.Below.{stored_at}
use Rattle.sessions.specs.Known.{nodes_of, rules_of}
use Rattle.sessions.specs.declared.session.Session.{Session}

-- of these goals nothing is stored, and of all others what was
pub record KeepsOtherResults {S : Type 0} (IsLetGo : ℕ → Type 0) (same : ℕ → ℕ → Bool) (old new : Store ℕ S) :
    Type 0 where
  pub kept : (goal : ℕ) (place : Place) → ¬ IsLetGo goal → stored_at same new goal place ≡ stored_at same old goal place
  pub gone : (goal : ℕ) (place : Place) → IsLetGo goal → stored_at same new goal place ≡ None

-- nodes of these goals are gone, and all others are as they were, under the same numbers
pub record KeepsOtherNodes (IsLetGo : ℕ → Type 0) (old new : List (CacheNode ℕ Outcome)) : Type 0 where
  pub as_many : length new ≡ length old
  pub kept : (at : ℕ) (n : CacheNode ℕ Outcome) → slice_get old at ≡ Some n → ¬ IsLetGo n.goal
      → slice_get new at ≡ Some n
  pub gone : (at : ℕ) (n : CacheNode ℕ Outcome) → slice_get old at ≡ Some n → IsLetGo n.goal
      → IsGone (slice_get new at)

-- The session went over to these rows. What it knew of goals that this concerns is gone, and all else is kept, with the
-- graphs of earlier answers.
pub record HasChanged {L : Type 0} (table_of : L → Table) (same : ℕ → ℕ → Bool) (rows : Table) (old new : Session L) :
    Type 0 where
  pub rules : rules_of table_of new ≡ rows
  pub results : KeepsOtherResults (IsConcerned (rules_of table_of old) rows) same old.cache.results new.cache.results
  pub nodes : KeepsOtherNodes (IsConcerned (rules_of table_of old) rows) (nodes_of old) (nodes_of new)
  pub graphs : (goal : ℕ) (outcome : Outcome) (node : Option NodeId)
      → ¬ IsConcerned (rules_of table_of old) rows goal
      → HasGraph outcome_verdicts (nodes_of old) goal outcome node
      → HasGraph outcome_verdicts (nodes_of new) goal outcome node
  pub fault : new.last_fault ≡ old.last_fault
