-- What is told of what a call came to.
use Rattle.std.specs.Prelude.{◌≡◌, ◌⊎◌, ℕ, Bool, Err, false, IfOk, IfSome, Ok, Result}
use Rattle.shown_graphs.specs.Below.{Answer, Cache, CxOf, DelegateOf, Fault, Goal, Graph, HasRun, IsReason}
use Rattle.shown_graphs.specs.Below.{Memory, Outcome}
use Rattle.graph_pages.specs.Checked.{outcome_of, reason_of}
use Rattle.graph_pages.specs.declared.answer.Came.{Came}

-- an answer is told by its outcome, unless memory was out for its graph, and a fault is told as it is
abbrev pub IsToldAs : Result (Answer Outcome) (Fault Goal Outcome) → Came → Type 0
IsToldAs (Ok answer) told = (outcome_of told ≡ Ok answer.result) ⊎ (outcome_of told ≡ Err Memory)
IsToldAs (Err fault) told = outcome_of told ≡ Err fault

module _ {D C V P F A T : Type 0} (G : DelegateOf D C V P F Goal Outcome A T) (X : CxOf C Goal Outcome A T)
    (same : Goal → Goal → Bool) (same_result : Outcome → Outcome → Bool) where
  -- The call was made, and if a reason is told of what it came to, that one may be: of a call that started a frame, as
  -- `is_run` says, or none, and that met a limit or none.
  pub record HasReason (goal : Goal) (depth : ℕ) (before after : Cache C Goal Outcome T) (starts later : ℕ)
      (noop is_run : Bool) (told : Came) : Type 0 where
    pub begun : Graph
    pub is_begun : begun ≡ record { root_depth = depth; limits_met = false }
    pub came : Result (Answer Outcome) (Fault Goal Outcome)
    pub left : Graph
    pub counted : ℕ
    pub is_counted : counted ≡ later
    pub ran : HasRun G X same same_result (record {
      goal = goal;
      noop = noop;
      looks_up = noop;
      before = record { graph = begun; cache = before; starts = starts };
      result = came;
      after = record { graph = left; cache = after; starts = counted };
    })
    pub is_told : IsToldAs came told
    pub reason : IfSome (reason_of told)
        (λ reason. IfOk came (λ answer. IsReason is_run left.limits_met answer.result reason))
