-- Whether a limit is met where a run ends.
use Rattle.std.proofs.Common.{ap, Bool, Err, false, Ok, refl, Result, true, ℕ, ◌||◌, ◌∙◌, ◌≡◌}
use Rattle.two_runs.specs.Below.{Again, AtLimit, Cache, CxOf, DelegateOf, Fault, Next}
use Rattle.search_state.specs.declared.evaluation.Evaluation.{Evaluation}
use Rattle.two_runs.specs.AtLimit.{MeetsLimitAtEnd}
use Rattle.search_ends.specs.Words.{EndedAtLimit, EndedDone, NotRunAgain, RanAgain, RunEnds}

pub or_not : (b : Bool) → b ≡ (b || false)
or_not true = refl
or_not false = refl

pub or_met : (b : Bool) → true ≡ (b || true)
or_met true = refl
or_met false = refl

module _ {D C V P F I R A T : Type 0} {G : DelegateOf D C V P F I R A T} {X : CxOf C I R A T} {same : I → I → Bool}
    {same_result : R → R → Bool} {outcome : R} {old : Cache C I R T}
    {before : Evaluation D C V P F I R A T} {starts : ℕ} where
  -- it is if this end is that of a goal that had its most runs
  pub ended_meets :
      {result : Result (Next R) (Fault I R)} {new : Cache C I R T} {after : Evaluation D C V P F I R A T} {later : ℕ}
      → RunEnds G X same same_result outcome old before starts result new after later
      → MeetsLimitAtEnd G same_result outcome before after.limits_met
  ended_meets (EndedDone entry run reason result new after comes pop) =
      record {
        entry = entry;
        run = run;
        end = Ok reason;
        comes = comes;
        is = ap (λ (a : Evaluation D C V P F I R A T). a.limits_met) pop.rest ∙ or_not before.limits_met;
      }
  ended_meets (EndedAtLimit entry run result new after comes pop) =
      record {
        entry = entry;
        run = run;
        end = Err AtLimit;
        comes = comes;
        is = ap (λ (a : Evaluation D C V P F I R A T). a.limits_met) pop.rest ∙ or_met before.limits_met;
      }
  ended_meets (RanAgain entry run new after later comes keeps reran counted) =
      record {
        entry = entry;
        run = run;
        end = Err Again;
        comes = comes;
        is = ap (λ (a : Evaluation D C V P F I R A T). a.limits_met) keeps.rest ∙ or_not before.limits_met;
      }
  ended_meets (NotRunAgain entry run new after later comes keeps) =
      record {
        entry = entry;
        run = run;
        end = Err Again;
        comes = comes;
        is = ap (λ (a : Evaluation D C V P F I R A T). a.limits_met) keeps.rest ∙ or_not before.limits_met;
      }
