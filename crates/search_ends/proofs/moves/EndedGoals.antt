-- What the end of a run leaves of the goals, of what becomes of their results, and of the scopes that they hold.
use Rattle.std.proofs.Common.{ℕ, Bool, IfOk, Option, Result, ap, sym, subst}
use Rattle.between_moves.proofs.Scopes.{HoldScopesNext, popped_holds}
use Rattle.between_moves.specs.Scopes.{HoldScopes}
use Rattle.search_ends.specs.Below.{Cache, CxOf, DelegateOf, Fated, fates_of, Fault, MovesFates, Next}
use Rattle.search_ends.specs.Below.{RebaseReason, StayFrom}
use Rattle.search_state.specs.declared.evaluation.Evaluation.{Evaluation}
use Rattle.search_ends.specs.Words.{EndedAtLimit, EndedDone, HadMostRuns, IsDone, IsRunAgain, NotRunAgain, PopsOrFails}
use Rattle.search_ends.specs.Words.{RanAgain, RunEnds, RunLeads}
use Rattle.search_rules.proofs.moves.Fates.{fates_left, fates_rerun}
use Rattle.search_rules.proofs.moves.Questions.{if_ok_then}
use Rattle.search_rules.proofs.records.EarlierNodes.{stay_left}
use Rattle.search_rules.specs.Fates.{Pop, Stay}

module _ {D C V P F I R A T : Type 0} (G : DelegateOf D C V P F I R A T) (X : CxOf C I R A T)
    (same : I → I → Bool) (cx : C) where
  -- the goals after the end of a run
  pub led_from :
      (same_result : R → R → Bool) (outcome : R) (old : Cache C I R T) (before : Evaluation D C V P F I R A T)
      (next : Next R) (new : Cache C I R T) (after : Evaluation D C V P F I R A T)
      → RunLeads G X same same_result outcome old before next new after → StayFrom old.nodes before.goals after.goals
  led_from same_result outcome old before next new after (IsDone entry run reason comes pops unmet) =
      stay_left old.nodes outcome before.goals after.goals next pops.left
  led_from same_result outcome old before next new after (HadMostRuns entry run comes pops met) =
      stay_left old.nodes _ before.goals after.goals next pops.left
  led_from same_result outcome old before next new after (IsRunAgain entry run comes reran is unmet) = reran.stays

  -- what becomes of their results
  pub led_fates :
      (same_result : R → R → Bool) (suits : Fated I R → Type 0) (outcome : R) (old : Cache C I R T)
      (before : Evaluation D C V P F I R A T) (next : Next R) (new : Cache C I R T)
      (after : Evaluation D C V P F I R A T)
      → RunLeads G X same same_result outcome old before next new after
      → MovesFates same suits (fates_of before.goals) (fates_of after.goals)
  led_fates same_result suits outcome old before next new after (IsDone entry run reason comes pops unmet) =
      let left = fates_left outcome before.goals after.goals next pops.left in Pop left.0 left.1
  led_fates same_result suits outcome old before next new after (HadMostRuns entry run comes pops met) =
      let left = fates_left _ before.goals after.goals next pops.left in Pop left.0 left.1
  led_fates same_result suits outcome old before next new after (IsRunAgain entry run comes reran is unmet) =
      Stay (fates_rerun G X old.cx before.goals after.goals outcome reran.reran)

module _ {D C V P F I R A T : Type 0} {G : DelegateOf D C V P F I R A T}
    {X : CxOf C I R A T} {same : I → I → Bool} where
  pops_scopes :
      {outcome : R} {reason : Option (RebaseReason C I R A T)} {old : Cache C I R T}
      {before : Evaluation D C V P F I R A T} {result : Result (Next R) (Fault I R)} {new : Cache C I R T}
      {after : Evaluation D C V P F I R A T}
      → PopsOrFails G X same outcome reason old before result new after
      → HoldScopes (fates_of before.goals) before.scopes
      → IfOk result (λ next. HoldScopesNext next after.goals after.scopes)
  pops_scopes {outcome = outcome} {before = before} {result = result} {after = after} pops h =
      if_ok_then result _ _ pops.popped
      (λ next p. popped_holds outcome before.goals after.goals next after.scopes before.scopes p.left p.released h)

  -- which of them hold scopes
  pub ended_scopes :
      {same_result : R → R → Bool} {outcome : R} {old : Cache C I R T} {before : Evaluation D C V P F I R A T}
      {starts : ℕ} {result : Result (Next R) (Fault I R)} {new : Cache C I R T}
      {after : Evaluation D C V P F I R A T} {later : ℕ}
      → RunEnds G X same same_result outcome old before starts result new after later
      → HoldScopes (fates_of before.goals) before.scopes
      → IfOk result (λ next. HoldScopesNext next after.goals after.scopes)
  ended_scopes (EndedDone entry run reason result new after comes pops) h = pops_scopes pops h
  ended_scopes (EndedAtLimit entry run result new after comes pops) h = pops_scopes pops h
  ended_scopes {outcome = outcome} {old = old} {before = before}
      (RanAgain entry run new after later comes keeps reran counted) h =
      subst (HoldScopes (fates_of after.goals)) (sym (ap (λ (e : Evaluation D C V P F I R A T). e.scopes) keeps.rest))
      (subst (λ fs. HoldScopes fs before.scopes)
      (sym (fates_rerun G X old.cx before.goals after.goals outcome reran.reran)) h)
  ended_scopes (NotRunAgain entry run new after later comes keeps) h = tt
