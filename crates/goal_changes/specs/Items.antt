-- What becomes of the newest goal under evaluation and its run.
use Rattle.std.specs.Prelude.{◌≡◌, ℕ, ◌+◌, Bool, ◌||◌, List, [], ◌∷◌, length, Option}
use Rattle.goal_changes.specs.Below.{NodeId, PathKind, EntryState, StackEntry, Heads, Run, no_record}
use Rattle.goal_changes.specs.Entries.{TakesAnswer, rerun_under}
use Rattle.goal_changes.specs.OpenGoal.{OpenGoal}

module _ {X F I R A T : Type 0} where
  -- the newest goal takes an answer over the step, with the depth that this required, whether it met
  -- overflow, and its heads
  pub record AnswersNewest (step : PathKind) (required : ℕ) (overflow : Bool) (answer : Heads)
      (old new : List (OpenGoal X F I R A T)) : Type 0 where
    pub entry : StackEntry X I R A T
    pub run : Run X F I R A T
    pub below : List (OpenGoal X F I R A T)
    pub state : EntryState X I R A T
    pub was : old ≡ (entry, run) ∷ below
    pub is : new ≡ (record entry { state = state }, run) ∷ below
    pub takes : TakesAnswer (record { 0 = length below }) step required overflow answer entry.state state

  -- the goal with a new record of what its run did
  abbrev pub with_no_record : OpenGoal X F I R A T → OpenGoal X F I R A T
  with_no_record s = (s.0, record s.1 { progress = no_record })

  -- the goal is run again under a result, with a frame and a node for the run
  abbrev pub rerun_with : R → Option NodeId → F → NodeId → OpenGoal X F I R A T → OpenGoal X F I R A T
  rerun_with r target frame own s = (
    record s.0 { state = rerun_under r target s.0.state },
    record s.1 {
      frame = frame;
      node = own;
      finished_runs = s.1.finished_runs + 1;
      met_overflow_before = s.1.met_overflow_before || s.0.state.encountered_overflow;
      candidates = [];
    },
  )
