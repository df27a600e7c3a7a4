-- Where the call has its answer, no goal is left.
use Rattle.std.proofs.Common.{◌≡◌, List, [], ◌∷◌, Result, Ok, Err, IfOk, Bool, ℕ}
use Rattle.search_ends.specs.Words.{EndedAtLimit, EndedDone, NotRunAgain, RanAgain, RunEnds}
use Rattle.search_graph.specs.Below.{Cache, CxOf, DelegateOf, Fault, Finished, Next, OpenGoal, Received, Step}
use Rattle.search_context.specs.declared.context.Answer.{Answer}
use Rattle.search_graph.specs.Ran.{Advanced, Asked, FrameFailed, NotAsked, Noted, NotNoted, RunEnded}
use Rattle.search_graph.specs.Ran.{Answered, Failed, FailedForGood, GoesOn, IfEnd, NotAnswered, Turned}
use Rattle.search_rules.specs.Moves.{NewestLeaves}
use Rattle.search_state.specs.declared.evaluation.Evaluation.{Evaluation}

none_left : {X F I R A T : Type 0} (r : R) (old : List (OpenGoal X F I R A T)) (answer : Answer R)
    (new : List (OpenGoal X F I R A T)) → NewestLeaves r old (Finished answer) new → new ≡ []
none_left r [] answer new h = absurd h
none_left r (s ∷ []) answer new h = h.2
none_left r (s ∷ p ∷ below) answer new h = absurd cc

none_if_popped : {X F I R A T E : Type 0} (r : R) (old new : List (OpenGoal X F I R A T)) (P : Next R → Type 0)
    (result : Result (Next R) E) → ((next : Next R) → P next → NewestLeaves r old next new) → IfOk result P
    → IfEnd result (λ answer. new ≡ [])
none_if_popped r old new P (Ok (Step given)) leaves h = tt
none_if_popped r old new P (Ok (Finished answer)) leaves h = none_left r old answer new (leaves (Finished answer) h)
none_if_popped r old new P (Err e) leaves h = tt

module _ {D C V P F I R A T : Type 0} {G : DelegateOf D C V P F I R A T} {X : CxOf C I R A T} {same : I → I → Bool}
    {same_result : R → R → Bool} where
  none_at_end :
      {outcome : R} {old : Cache C I R T} {e : Evaluation D C V P F I R A T} {starts : ℕ}
      {result : Result (Next R) (Fault I R)} {new : Cache C I R T} {after : Evaluation D C V P F I R A T}
      {later : ℕ} → RunEnds G X same same_result outcome old e starts result new after later
      → IfEnd result (λ answer. after.goals ≡ [])
  none_at_end {outcome} {old} {e} (EndedDone entry run reason result new after comes pops) =
      none_if_popped _ e.goals after.goals _ result (λ next p. p.left) pops.popped
  none_at_end {outcome} {old} {e} (EndedAtLimit entry run result new after comes pops) =
      none_if_popped _ e.goals after.goals _ result (λ next p. p.left) pops.popped
  none_at_end (RanAgain entry run new after later comes keeps runs counts) = tt
  none_at_end (NotRunAgain entry run new after later comes keeps) = tt

  module _ {noop : Bool} {received : Received R} {old : Cache C I R T} {e : Evaluation D C V P F I R A T} {starts : ℕ}
    where
      none_advanced :
          {result : Result (Next R) (Fault I R)} {new : Cache C I R T} {after : Evaluation D C V P F I R A T}
          {later : ℕ} → Advanced G X same same_result noop received old e starts result new after later
          → IfEnd result (λ answer. after.goals ≡ [])
      none_advanced (FrameFailed fault goals failed) = tt
      none_advanced (Asked kind goal goals given new after later stepped asks keeps) = tt
      none_advanced (NotAsked kind goal goals new after later stepped stops keeps) = tt
      none_advanced (RunEnded outcome goals result new after later stepped runs ends) = none_at_end ends
      none_advanced (Noted request goals noted stepped about notes) = tt
      none_advanced (NotNoted request goals left stepped) = tt

      pub none_turned :
          {result : Result (Next R) (Fault I R)} {new : Cache C I R T} {after : Evaluation D C V P F I R A T}
          {later : ℕ} → Turned G X same same_result noop received old e starts result new after later
          → IfEnd result (λ answer. after.goals ≡ [])
      none_turned (GoesOn given mid new between after later advanced goes is first stored) = tt
      none_turned (Answered answer mid new after later advanced goes) = none_advanced advanced
      none_turned (NotAnswered answer new after later advanced) = tt
      none_turned (Failed fault mid new between after later advanced goes is) = tt
      none_turned (FailedForGood fault new between after later advanced is) = tt
