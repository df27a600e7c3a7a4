-- What is stored of a goal that is done, and what is known where that fails.
use Rattle.std.specs.Prelude.{◌≡◌, ◌&&◌, ◌++◌, if◌then◌else◌, ℕ, Bool, [], ◌∷◌, Contains, IfErr, IsTrue, List, map}
use Rattle.std.specs.Prelude.{Option, Result, reverse, Some, Ok, Err}
use Rattle.std.specs.Option.{option_map}
use Rattle.graph_nodes.specs.Collected.{Collected}
use Rattle.search_ends.specs.Below.{DelegateOf, CxOf, Cache, CacheNode, EvaluationResult, Fault, HasGraph, IfCompared}
use Rattle.search_ends.specs.Below.{IsExpected, IsPlainAt, KeepsResults, NodeId, PathKind, Place, Store, stored_at}
use Rattle.search_ends.specs.Below.{StoredResult, entries_at, place_of, verdicts, KeepsNoted}
use Rattle.search_context.specs.declared.context.Fault.TheVariants.{Conflict, Memory, Protocol, Validation}
use Rattle.search_context.specs.Verdicts.{Verdicts}
use Rattle.search_state.specs.Drafts.{noted}
use Rattle.search_state.specs.declared.drafts.Drafts.{Drafts}
use Rattle.search_state.specs.declared.evaluation.Evaluation.{Evaluation}
use Rattle.run_records.specs.declared.runs.Fate.{Fate}
use Rattle.run_records.specs.declared.runs.Fate.TheVariants as becomes
use Rattle.search_rules.specs.Claims.{ComesTo, IfDiffers, IsCaused}
use Rattle.search_rules.specs.Fates.{ChangesNewest}
use Rattle.search_rules.specs.Live.{AreLiveResults}
use Rattle.search_rules.specs.Provisional.{entries_for}
use Rattle.search_rules.specs.Results.{IsStored, StoresAnswer}

-- of a cache only the stored results changed, and each is there still, or an equal one
pub record ChangesResults {C I R T : Type 0} (same : I → I → Bool) (old new : Cache C I R T) : Type 0 where
  pub rest : new ≡ record old { results = new.results }
  pub kept : KeepsResults same old.results new.results

-- and only those of the goal, if that is its fate, which are then this answer
pub record PutsAnswer {C I R A T : Type 0} (same : I → I → Bool) (goal : I) (answer : EvaluationResult C I R A T)
    (fate : Fate R) (old new : Cache C I R T) : Type 0 where
  pub cache : ChangesResults same old new
  pub stored : StoresAnswer same old.results new.results goal answer
  pub changes :
      (depth : ℕ) → ChangesNewest same (record { goal = goal; depth = depth; fate = fate } ∷ []) old.results new.results

-- Memory is out, or another result is stored of this goal than it came to: in this place, if its own
-- was to be stored there.
abbrev pub FailsToStore : {I R T : Type 0} → (I → I → Bool)
    → Store I (StoredResult I R T) → I → Place → Fault I R → Type 0
FailsToStore same results goal place Memory = Unit {0}
FailsToStore same results goal place (Protocol number) = ⊥
FailsToStore same results goal place (Conflict other stored found) =
    (other ≡ goal) × (option_map (λ s. s.result.result) (stored_at same results goal place) ≡ Some stored)
FailsToStore same results goal place (Validation other stored found) = other ≡ goal

-- this result of the goal is stored, or the fault tells it beside the stored one
abbrev pub IsStoredOrTold : {B I R T : Type 0} → (I → I → Bool) → Store I (StoredResult I R T)
    → I → R → Result B (Fault I R) → Type 0
IsStoredOrTold same results goal r (Ok answer) =
    (place : Place) × (option_map (λ s. s.result.result) (stored_at same results goal place) ≡ Some r)
IsStoredOrTold same results goal r (Err Memory) = ⊥
IsStoredOrTold same results goal r (Err (Protocol number)) = ⊥
IsStoredOrTold same results goal r (Err (Conflict other stored found)) = (other ≡ goal) × (found ≡ r)
IsStoredOrTold same results goal r (Err (Validation other stored found)) = (other ≡ goal) × (found ≡ r)

-- No node is noted besides those of before, or one that shows such a result.
pub data NotesMore {B C I R T : Type 0} (says : Verdicts R) (same : I → I → Bool) (before : List NodeId)
    (result : Result B (Fault I R)) (new : Cache C I R T) (after : List NodeId) : Type 0 where
  NotesNone : after ≡ before → NotesMore says same before result new after
  NotesOne :
      (goal : I) (r : R) (node : Option NodeId)
      → after ≡ noted node before → HasGraph says new.nodes goal r node → IsStoredOrTold same new.results goal r result
      → NotesMore says same before result new after

-- what is noted as an answer is stored
pub record Notes {B C I R T : Type 0} (says : Verdicts R) (same : I → I → Bool) (old : Cache C I R T)
    (before : Drafts) (result : Result B (Fault I R)) (new : Cache C I R T) (after : Drafts) : Type 0 where
  pub keeps : KeepsNoted same old before new after
  pub more : NotesMore says same before.stored.items result new after.stored.items

module _ {D C V P F I R A T : Type 0} (G : DelegateOf D C V P F I R A T) (X : CxOf C I R A T) where
  -- The goal's answer may be stored: it has its graph, if it rests on no goal; it is plain, where the goal has a
  -- rank; the goal came to it.
  pub record IsStorable (cache : Cache C I R T) (goal : I) (answer : EvaluationResult C I R A T) : Type 0 where
    pub graph : answer.heads ≡ [] → HasGraph (verdicts X) cache.nodes goal answer.result answer.node
    pub plain : IsPlainAt (G.script cache.cx) goal (place_of answer) answer.result
    pub comes : ComesTo (G.script cache.cx) (G.fixpoint_overflow cache.cx) goal answer.result

  -- besides, a result that the goal's is to be compared with is stored
  pub record MayStore (same : I → I → Bool) (cache : Cache C I R T) (goal : I)
      (answer : EvaluationResult C I R A T) (fate : Fate R) : Type 0 where
    pub storable : IsStorable cache goal answer
    pub expected : IfCompared fate (IsExpected (G.scoped cache.cx) same cache.results goal)

  -- the fault has its cause, and has it still when nodes are let go to which neither stored
  -- results nor noted nodes lead
  pub record HasLastingCause (same : I → I → Bool) (cache : Cache C I R T)
      (drafts : Drafts) (fault : Fault I R) : Type 0 where
    pub caused : IsCaused G X same cache fault
    pub lasts : (live : ℕ → Bool) (left : List (CacheNode I R)) → Collected live cache.nodes left
        → AreLiveResults live same cache.results
        → ((node : NodeId) → Contains drafts.stored.items node → IsTrue (live node.0))
        → IsCaused G X same (record cache { nodes = left }) fault

  -- the fault has its cause, and nothing was stored
  pub record StoresNothing (same : I → I → Bool) (old new : Cache C I R T)
      (after : Drafts) (fault : Fault I R) : Type 0 where
    pub caused : HasLastingCause same new after fault
    pub unstored : new.results ≡ old.results

  -- the nodes of stored results stay noted; where there is a fault, nothing was stored
  pub record StoresOrFails {B : Type 0} (same : I → I → Bool) (old : Cache C I R T) (before : Drafts)
      (result : Result B (Fault I R)) (new : Cache C I R T) (after : Drafts) : Type 0 where
    pub noted : KeepsNoted same old before new after
    pub fails : IfErr result (StoresNothing same old new after)

  -- besides, if another result is stored than the goal came to, it came to this one
  pub record Fails (same : I → I → Bool) (came_to : R) (old new : Cache C I R T)
      (after : Drafts) (fault : Fault I R) : Type 0 where
    pub stores : StoresNothing same old new after fault
    pub differs : IfDiffers fault (λ found. found ≡ came_to)

  -- The answer, which was asked over the step, is stored as it is, with the goal's token, if it rests on no goal and
  -- that is its fate; if it is to be compared instead, it is the result that is stored. One that rests on goals is a
  -- provisional entry of its goal, if the delegate lets such entries be used.
  pub record Stores (same : I → I → Bool) (step : PathKind) (goal : I) (answer : EvaluationResult C I R A T)
      (fate : Fate R) (old new : Evaluation D C V P F I R A T) (cache : Cache C I R T) : Type 0 where
    pub stored : fate ≡ becomes.Stored → answer.heads ≡ [] → IsStored same (X.token cache.cx) cache.results goal answer
    pub compared : (stored : R) → fate ≡ becomes.Compared stored → answer.heads ≡ [] → answer.result ≡ stored
    pub entry : (other : I) → entries_at same new.provisional other
        ≡ entries_at same old.provisional other ++ (if G.ENABLE_PROVISIONAL_CACHE && same goal other
        then entries_for (reverse (map (λ s. s.0) old.goals)) step answer else [])
