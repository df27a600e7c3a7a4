-- Whether a limit is met where a run ends.
use Rattle.std.specs.Prelude.{◌≡◌, ◌||◌, Bool, true, false, Option, Result, Err}
use Rattle.two_runs.specs.Below.{AtLimit, DelegateOf, RebaseReason, Run, StackEntry, Unstable}
use Rattle.search_state.specs.declared.evaluation.Evaluation.{Evaluation}
use Rattle.search_ends.specs.RunEnded.{ComesToEnd}

-- whether this end is that of a goal that had its most runs
abbrev pub is_at_limit : {C I R A T : Type 0} → Result (Option (RebaseReason C I R A T)) Unstable → Bool
is_at_limit (Err AtLimit) = true
is_at_limit _ = false

module _ {D C V P F I R A T : Type 0} (G : DelegateOf D C V P F I R A T) (same_result : R → R → Bool) (outcome : R)
    (before : Evaluation D C V P F I R A T) where
  -- a limit was met before, or is met now since the goal had its most runs
  pub record MeetsLimitAtEnd (met : Bool) : Type 0 where
    pub entry : StackEntry C I R A T
    pub run : Run C F I R A T
    pub end : Result (Option (RebaseReason C I R A T)) Unstable
    pub comes : ComesToEnd G same_result outcome before entry run end
    pub is : met ≡ (before.limits_met || is_at_limit end)
