-- What a move, and the whole of an evaluation, comes to in whatever call it is made.
use Rattle.std.specs.Prelude.{◌≡◌, ℕ, Bool, true, false, List, Option, Result, IfOk, IfErr, IfSome}
use Rattle.search_graph.specs.Below.{Begins, Cache, CacheNode, Call, CxOf, DelegateOf, EndsWith, Fated, Fault, fates_of}
use Rattle.search_graph.specs.Below.{HasGraph, Hit, IsCaused, KeepsFinished, KeepsNodes, KeepsResults, MovesFates}
use Rattle.search_graph.specs.Below.{Place, StayFrom, OpenGoal, Store, stored_at, StopsWith, verdicts}
use Rattle.run_records.specs.declared.runs.Fate.{Fate}
use Rattle.run_records.specs.declared.runs.Fate.TheVariants as becomes
use Rattle.search_context.specs.declared.context.Answer.{Answer}
use Rattle.search_state.specs.declared.evaluation.Evaluation.{Evaluation}

-- What a call keeps of the cache: the context, stored results or equal ones, finished nodes, and each node's goal.
pub record KeepsAll {C I R T : Type 0} (same : I → I → Bool) (old new : Cache C I R T) : Type 0 where
  pub context : new.cx ≡ old.cx
  pub results : KeepsResults same old.results new.results
  pub finished : KeepsFinished old.nodes new.nodes
  pub nodes : KeepsNodes old.nodes new.nodes

-- With a builder that records no result is stored; and none is of the goal itself, if that is its fate.
pub record Spares {I S R : Type 0} (same : I → I → Bool) (noop : Bool) (fate : Fate R) (goal : I)
    (old new : Store I S) : Type 0 where
  pub recorded : noop ≡ false → new ≡ old
  pub spared : fate ≡ becomes.NotStored → (place : Place)
      → stored_at same new goal place ≡ stored_at same old goal place

-- a result is the stored one that it is to be compared with, if that is its fate
abbrev pub IsOfFate : {R : Type 0} → Fate R → R → Type 0
IsOfFate fate r = (stored : _) → fate ≡ becomes.Compared stored → r ≡ stored

-- and so it is where the builder is a no-op, the goal is in a scope, and such a result is stored
abbrev pub IsOfStored : {I R T : Type 0} → (noop in_scope : Bool) → Option (Hit I R T) → R → Type 0
IsOfStored noop in_scope found r = noop ≡ true → in_scope ≡ true → IfSome found (λ hit. r ≡ hit.result)

-- What a move does with the goals under evaluation: their runs' nodes are no older than they were, and their results'
-- fates stay as they were, but for a goal that is pushed or popped.
pub record MovesGoals {C F I R A T : Type 0} (same : I → I → Bool) (suits : Fated I R → Type 0)
    (nodes : List (CacheNode I R)) (old new : List (OpenGoal C F I R A T)) : Type 0 where
  pub stays : StayFrom nodes old new
  pub fates : MovesFates same suits (fates_of old) (fates_of new)

-- An answer has its graph, and a fault its cause.
pub record IsGrounded {D C V P F I R A T : Type 0} (G : DelegateOf D C V P F I R A T) (X : CxOf C I R A T)
    (same : I → I → Bool) (goal : I) (cache : Cache C I R T) (result : Result (Answer R) (Fault I R)) : Type 0 where
  pub has_graph : IfOk result (λ answer. HasGraph (verdicts X) cache.nodes goal answer.result answer.node)
  pub caused : IfErr result (IsCaused G X same cache)

module _ {D C V P F I R A T : Type 0} (G : DelegateOf D C V P F I R A T) (X : CxOf C I R A T)
    (same : I → I → Bool) (cx : C) where
  -- where the call began, an answer ended it, which is stored where this holds and whose result is as this says,
  -- or a fault stopped it
  pub record Evaluates (is_stored : Type 0) (is_expected : R → Type 0) (goal : I) (old : Cache C I R T)
      (before : Evaluation D C V P F I R A T) (from : ℕ) (result : Result (Answer R) (Fault I R))
      (new : Cache C I R T) (after : Evaluation D C V P F I R A T) (to : ℕ) : Type 0 where
    pub ended : (call : Call I) → Begins G X cx same call goal before.root_depth.0 from before.limits_met old.results
        → IfOk result (λ answer. EndsWith G X same cx is_stored is_expected call answer new after to)
    pub stopped : (call : Call I) → Begins G X cx same call goal before.root_depth.0 from before.limits_met old.results
        → IfErr result (λ fault. StopsWith G X same cx call fault new after to)
