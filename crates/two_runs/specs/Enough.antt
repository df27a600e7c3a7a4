-- Calls for which two runs of a goal are enough, and lists of such calls.
use Rattle.std.specs.Prelude.{All, Bool, Contains, false, ◌≡◌, List, ℕ, Result, IfOk, IfErr, slice_get, Some}
use Rattle.search_context.specs.declared.context.Answer.{Answer}
use Rattle.search_graph.specs.Called.{Called}
use Rattle.two_runs.specs.Below.{AreDefinite, Begins, Cache, Call, CxOf, Decides, DelegateOf, Fault, HaveNoOverflowOf}
use Rattle.two_runs.specs.Below.{IsDefinite, IsMemoryOrOrder, PathKind, verdicts}
use Rattle.two_runs.specs.Evaluations.{IsSettledStore}
use Rattle.search_state.specs.declared.evaluation.Evaluation.{Evaluation}
use Rattle.two_runs.specs.Settled.{CallNeedsTwoRuns, NeedsTwoRuns}

module _ {D C V P F I R A T : Type 0} (G : DelegateOf D C V P F I R A T)
    (X : CxOf C I R A T) (same : I → I → Bool) where
  -- Two runs of each goal are enough over the cache: no overflow result is stored of the goals, each stored result is
  -- yes or no, and they are settled, and suit provisional entries.
  pub record TwoRunsAreEnough (goals : List I) (cache : Cache C I R T) (depth : ℕ)
      (goal : I) (noop : Bool) : Type 0 where
    pub needs : NeedsTwoRuns G X cache.cx goals depth goal noop
    pub no_overflow : HaveNoOverflowOf (Contains goals) same cache.results
    pub definite : AreDefinite (verdicts X) same cache.results
    pub settled : IsSettledStore G X same cache.cx goals cache.nodes cache.results

  -- So a call meets no limit, also where it ends in a fault; its answer decides its goal, and its fault is want of
  -- memory or a request out of order; and the cache is left as it was found, in all that makes two runs enough.
  pub record IsDoneInTwoRuns (goals : List I) (call : Called C I R A T) : Type 0 where
    pub unmet : call.after.graph.limits_met ≡ false
    pub decides : IfOk call.result (λ answer. Decides X call.before.cache.cx call.goal answer.result)
    pub faults : IfErr call.result (λ fault. IsMemoryOrOrder fault)
    pub no_overflow : HaveNoOverflowOf (Contains goals) same call.after.cache.results
    pub definite : AreDefinite (verdicts X) same call.after.cache.results
    pub settled : IsSettledStore G X same call.before.cache.cx goals call.after.cache.nodes call.after.cache.results

  -- Where two runs of each goal are enough for all of the queries, they stay so for each query that they were enough
  -- for; and each answer is yes or no, or its fault is want of memory or a request out of order.
  pub record TakesTwoRuns (noop : Bool) (queries : List (ℕ × I × PathKind)) (old new : Cache C I R T)
      (came : List (Result (Answer R) (Fault I R))) : Type 0 where
    pub stays : (goals : List I) (depth : ℕ) (goal : I)
        → All (λ query. TwoRunsAreEnough goals old query.0 query.1 noop) queries
        → TwoRunsAreEnough goals old depth goal noop → TwoRunsAreEnough goals new depth goal noop
    pub answers : (goals : List I) (at : ℕ) (answer : Result (Answer R) (Fault I R))
        → All (λ query. TwoRunsAreEnough goals old query.0 query.1 noop) queries → slice_get came at ≡ Some answer
        → IfOk answer (λ a. IsDefinite (verdicts X) a.result) × IfErr answer (λ fault. IsMemoryOrOrder fault)

  module _ (cx : C) (noop : Bool) where
    -- an evaluation meets no limit, and leaves the stored results settled, whether it has an answer or a fault
    pub record EndsSettled (goal : I) (old : Cache C I R T) (before : Evaluation D C V P F I R A T) (from : ℕ)
        (result : Result (Answer R) (Fault I R)) (new : Cache C I R T)
        (after : Evaluation D C V P F I R A T) : Type 0 where
      pub unmet : (call : Call I) → Begins G X cx same call goal before.root_depth.0 from before.limits_met old.results
          → CallNeedsTwoRuns G X cx call noop → IsSettledStore G X same cx call.goals old.nodes old.results
          → after.limits_met ≡ false
      pub settles : (call : Call I)
          → Begins G X cx same call goal before.root_depth.0 from before.limits_met old.results
          → CallNeedsTwoRuns G X cx call noop → IsSettledStore G X same cx call.goals old.nodes old.results
          → IsSettledStore G X same cx call.goals new.nodes new.results
