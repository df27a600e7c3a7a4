-- A goal is popped with its result.
use Rattle.std.specs.Prelude.{◌≡◌, ℕ, Bool, List, [], ◌∷◌, Option, Result, IfOk, IfErr}
use Rattle.run_records.specs.declared.runs.Fate.TheVariants as becomes
use Rattle.search_ends.specs.Below.{ChangesCache, DelegateOf, CxOf, Fault, fates_of, IsNewestPlainTo, MayPutNewest}
use Rattle.search_ends.specs.Below.{Memory, OpenGoal, RebaseReason, Next, Cache, Store, StoredResult, IsDefinite}
use Rattle.search_ends.specs.Below.{verdicts, IsRight, IsRightNext}
use Rattle.search_ends.specs.Storing.{Fails, FailsToStore, Notes}
use Rattle.search_state.specs.declared.evaluation.Evaluation.{Evaluation}
use Rattle.between_moves.specs.Scopes.{HoldsNewest}
use Rattle.search_rules.specs.Moves.{CanLeave, LeavesNested, NewestLeaves}
use Rattle.search_rules.specs.Provisional.{HasReason, IsNewestUnranked, RebasesNewest}
use Rattle.search_rules.specs.Results.{IsNewestStored, NewestComesTo, NewestIsPlain, place_of_item, StoresNewest}
use Rattle.search_rules.specs.Runs.{EndsNewest, HasNewestNode, node_given}

-- the newest goal came to the result that is stored, if it rests on no goal and was to be compared with that
abbrev pub IsNewestCompared : {X F I R A T : Type 0} → List (OpenGoal X F I R A T) → R → Type 0
IsNewestCompared [] outcome = ⊥
IsNewestCompared (s ∷ below) outcome =
    (stored : _) → s.1.fate ≡ becomes.Compared stored → s.0.state.heads ≡ [] → outcome ≡ stored

-- memory is out, or another result is stored of the newest goal than it came to: where its answer belongs, if
-- that was to be stored
abbrev pub NewestFailsToStore : {X F I R A T : Type 0} → (I → I → Bool) → Store I (StoredResult I R T)
    → List (OpenGoal X F I R A T) → Fault I R → Type 0
NewestFailsToStore same results [] fault = ⊥
NewestFailsToStore same results (s ∷ below) fault = FailsToStore same results s.0.input (place_of_item s) fault

module _ {D C V P F I R A T : Type 0} (G : DelegateOf D C V P F I R A T) (X : CxOf C I R A T) (same : I → I → Bool)
    (outcome : R) (reason : Option (RebaseReason C I R A T)) (old : Cache C I R T)
    (before : Evaluation D C V P F I R A T) where
  -- The newest goal may be popped with the result: a definite one is that of its run; the goal came to it, and it is
  -- plain where the goal has a rank; the reason is true of the goal.
  pub record MayPop : Type 0 where
    pub leaves : CanLeave before.goals
    pub ends : IsDefinite (verdicts X) outcome → EndsNewest (verdicts X) (G.script old.cx) before.goals outcome
    pub comes : NewestComesTo (G.script old.cx) (G.fixpoint_overflow old.cx) before.goals outcome
    pub plain : NewestIsPlain (G.script old.cx) before.goals outcome
    pub is_reason : HasReason (verdicts X) reason before.goals outcome
    pub unranked : IsNewestUnranked (G.script old.cx) before.goals
    pub right : IsRight G X same old.cx old before

  -- It was popped: its result is the answer to the goal below it, with its nested goals, or to the call, and comes with
  -- its node; the answer is stored, or was compared with the one that is, if it rests on no goal, and else becomes a
  -- provisional entry; its own scope is let go; entries that rested on the goal are rebased.
  pub record Pops (next : Next R) (new : Cache C I R T) (after : Evaluation D C V P F I R A T) : Type 0 where
    pub left : NewestLeaves outcome before.goals next after.goals
    pub node : HasNewestNode (verdicts X) old.nodes new.nodes before.goals outcome (node_given next)
    pub nested : LeavesNested same before.goals after.goals
    pub stored : IsNewestStored same (X.token old.cx) before.goals outcome (node_given next) new.results
    pub compared : IsNewestCompared before.goals outcome
    pub released : HoldsNewest (fates_of before.goals) after.scopes before.scopes
    pub puts : StoresNewest same before.goals outcome (node_given next) old.results new.results
    pub rebased : RebasesNewest same G.ENABLE_PROVISIONAL_CACHE (G.propagated old.cx) (G.fixpoint_overflow old.cx)
        reason outcome (node_given next) before.goals before.provisional after.provisional
    pub right : IsRightNext G X same old.cx before.goals next new after

  -- It was popped, or could not be, for want of memory or since another result is stored than it came to. No other
  -- goal's results changed.
  pub record PopsOrFails (result : Result (Next R) (Fault I R)) (new : Cache C I R T)
      (after : Evaluation D C V P F I R A T) : Type 0 where
    pub popped : IfOk result (λ next. Pops next new after)
    pub fails : IfErr result (Fails G X same outcome old new after.drafts)
    pub whose : IfErr result (NewestFailsToStore same old.results before.goals)
    pub plain : (n : ℕ) → IsNewestPlainTo (G.script old.cx) n before.goals → IfErr result (λ fault. fault ≡ Memory)
    pub stored : MayPutNewest same before.goals outcome old.results new.results
    pub cache : ChangesCache same before.goals old new
    pub noted : Notes (verdicts X) same old before.drafts result new after.drafts
    pub rest : after ≡ record before {
      goals = after.goals;
      scopes = after.scopes;
      provisional = after.provisional;
      drafts = after.drafts;
    }
