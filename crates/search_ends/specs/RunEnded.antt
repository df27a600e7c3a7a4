-- What the end of the newest goal's run leads to.
use Rattle.std.specs.Prelude.{◌≡◌, ◌≤◌, ◌+◌, ℕ, Bool, true, Option, None, Some, Result, Ok, Err}
use Rattle.std.specs.Option.{option_map}
use Rattle.search_ends.specs.Below.{Again, AtLimit, Begin, Cache, CountsOne, CxOf, DelegateOf, Fault, IsEndOfRun}
use Rattle.search_ends.specs.Below.{KeepsEarlier, KeepsFinished, Memory, newest, Next, Overflow, RebaseReason, Run}
use Rattle.search_ends.specs.Below.{StackEntry, Step, Unstable}
use Rattle.search_state.specs.declared.evaluation.Evaluation.{Evaluation}
use Rattle.search_ends.specs.Popped.{Pops, PopsOrFails}
use Rattle.search_ends.specs.RunAgain.{RunsAgain}

module _ {D C V P F I R A T : Type 0} (G : DelegateOf D C V P F I R A T) (same_result : R → R → Bool) (outcome : R)
    (before : Evaluation D C V P F I R A T) where
  -- the newest goal, whose run came to the result, has this entry and run, and this becomes of it
  pub record ComesToEnd (entry : StackEntry C I R A T) (run : Run C F I R A T)
      (end : Result (Option (RebaseReason C I R A T)) Unstable) : Type 0 where
    pub is_entry : option_map (λ s. s.0) (newest before.goals) ≡ Some entry
    pub is_run : option_map (λ s. s.1) (newest before.goals) ≡ Some run
    pub ends : IsEndOfRun same_result G.initial_kind G.ambiguity G.FIXPOINT_STEP_LIMIT entry.state.provisional_result
        entry.state.usages run.finished_runs outcome end

module _ {D C V P F I R A T : Type 0} (G : DelegateOf D C V P F I R A T) (X : CxOf C I R A T) (same : I → I → Bool)
    (same_result : R → R → Bool) (outcome : R) (old : Cache C I R T) (before : Evaluation D C V P F I R A T) where
  -- A goal that is done is popped with its result, for the reason why it needs no further run. One that had its most
  -- runs meets a limit, and is popped with the overflow result, for that reason. Any other is run again.
  pub data RunLeads (next : Next R) (new : Cache C I R T) (after : Evaluation D C V P F I R A T) : Type 0 where
    IsDone :
        (entry : StackEntry C I R A T) (run : Run C F I R A T) (reason : Option (RebaseReason C I R A T))
        → ComesToEnd G same_result outcome before entry run (Ok reason)
        → Pops G X same outcome reason old before next new after
        → after.limits_met ≡ before.limits_met → RunLeads next new after
    HadMostRuns :
        (entry : StackEntry C I R A T) (run : Run C F I R A T)
        → ComesToEnd G same_result outcome before entry run (Err AtLimit)
        → Pops G X same (G.fixpoint_overflow old.cx entry.input) (Some Overflow) old
        (record before { limits_met = true }) next new after
        → after.limits_met ≡ true → RunLeads next new after
    IsRunAgain :
        (entry : StackEntry C I R A T) (run : Run C F I R A T)
        → ComesToEnd G same_result outcome before entry run (Err Again)
        → RunsAgain G X same outcome old before new after
        → next ≡ Step (record { reply = Begin; node = None })
        → after.limits_met ≡ before.limits_met → RunLeads next new after

-- what the newest goal's rerun leaves as it was, whether it began or not: all but goals, provisional entries and nodes
pub record RerunKeeps {D C V P F I R A T : Type 0} (G : DelegateOf D C V P F I R A T) (old : Cache C I R T)
    (before : Evaluation D C V P F I R A T) (starts : ℕ) (new : Cache C I R T)
    (after : Evaluation D C V P F I R A T) (later : ℕ) : Type 0 where
  pub cache : new ≡ record old { nodes = new.nodes }
  pub kept : KeepsFinished old.nodes new.nodes
  pub earlier : KeepsEarlier before.goals old.nodes new.nodes
  pub rest : after ≡ record before { goals = after.goals; provisional = after.provisional }
  pub at_least : starts ≤ later
  pub at_most : later ≤ starts + 1

module _ {D C V P F I R A T : Type 0} (G : DelegateOf D C V P F I R A T) (X : CxOf C I R A T) (same : I → I → Bool)
    (same_result : R → R → Bool) (outcome : R) (old : Cache C I R T)
    (before : Evaluation D C V P F I R A T) (starts : ℕ) where
  -- Such an end, also where the goal could not be popped, or not be run again for want of memory.
  pub data RunEnds : Result (Next R) (Fault I R) → Cache C I R T → Evaluation D C V P F I R A T → ℕ → Type 0 where
    EndedDone :
        (entry : StackEntry C I R A T) (run : Run C F I R A T) (reason : Option (RebaseReason C I R A T))
        (result : Result (Next R) (Fault I R)) (new : Cache C I R T) (after : Evaluation D C V P F I R A T)
        → ComesToEnd G same_result outcome before entry run (Ok reason)
        → PopsOrFails G X same outcome reason old before result new after
        → RunEnds result new after starts
    EndedAtLimit :
        (entry : StackEntry C I R A T) (run : Run C F I R A T) (result : Result (Next R) (Fault I R))
        (new : Cache C I R T) (after : Evaluation D C V P F I R A T)
        → ComesToEnd G same_result outcome before entry run (Err AtLimit)
        → PopsOrFails G X same (G.fixpoint_overflow old.cx entry.input) (Some Overflow) old
        (record before { limits_met = true }) result new after
        → RunEnds result new after starts
    RanAgain :
        (entry : StackEntry C I R A T) (run : Run C F I R A T) (new : Cache C I R T)
        (after : Evaluation D C V P F I R A T) (later : ℕ)
        → ComesToEnd G same_result outcome before entry run (Err Again) → RerunKeeps G old before starts new after later
        → RunsAgain G X same outcome old before new after → (G.counts ≡ true → CountsOne G.last starts later)
        → RunEnds (Ok (Step (record { reply = Begin; node = None }))) new after later
    NotRunAgain :
        (entry : StackEntry C I R A T) (run : Run C F I R A T) (new : Cache C I R T)
        (after : Evaluation D C V P F I R A T) (later : ℕ)
        → ComesToEnd G same_result outcome before entry run (Err Again) → RerunKeeps G old before starts new after later
        → RunEnds (Err Memory) new after later
