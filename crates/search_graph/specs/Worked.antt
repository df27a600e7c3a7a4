-- What a goal that is worked out comes to, whatever its call.
use Rattle.std.specs.Prelude.{◌≡◌, ℕ, Bool, Result}
use Rattle.run_records.specs.declared.runs.Fate.{Fate}
use Rattle.run_records.specs.declared.runs.Fate.TheVariants as becomes
use Rattle.search_context.specs.declared.context.Answer.{Answer}
use Rattle.search_graph.specs.Below.{Cache, CxOf, DelegateOf, Fault, KeepsCache}
use Rattle.search_graph.specs.Calls.{Evaluates, IsGrounded, IsOfFate, Spares}
use Rattle.search_state.specs.declared.evaluation.Evaluation.{Evaluation}

-- The call is answered or stops, stored results and nodes that were there stay, and the answer has its graph,
-- or the fault its cause.
pub record WorksOut {D C V P F I R A T : Type 0} (G : DelegateOf D C V P F I R A T) (X : CxOf C I R A T)
    (same : I → I → Bool) (noop : Bool) (goal : I) (fate : Fate R) (old : Cache C I R T)
    (before : Evaluation D C V P F I R A T) (from : ℕ) (result : Result (Answer R) (Fault I R)) (new : Cache C I R T)
    (after : Evaluation D C V P F I R A T) (to : ℕ) : Type 0 where
  pub evaluates : Evaluates G X same old.cx (fate ≡ becomes.Stored) (IsOfFate fate)
      goal old before from result new after to
  pub spares : Spares same noop fate goal old.results new.results
  pub grounded : IsGrounded G X same goal new result
  pub keeps : KeepsCache same before.goals old new
