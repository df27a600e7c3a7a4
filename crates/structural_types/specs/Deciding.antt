-- What is kept true of the stored answers from one question to the next.
use Rattle.std.specs.Prelude.{Bool, Contains, List, Result, IfOk, IfErr}
use Rattle.structural_types.specs.Below.{Answer, AreDefinite, AreSettled, Cache, CxOf, DelegateOf, Fault}
use Rattle.structural_types.specs.Below.{HaveNoOverflowOf, IsDefinite, IsMemoryOrOrder, Outcome, outcome_verdicts}
use Rattle.structural_types.specs.Below.{script_of, StoredReachNested, StoredSuit, verdicts}
use Rattle.type_order.specs.Rule.{needs_of, questions_of}
use Rattle.type_order.specs.Pairs.{askable}
use Rattle.type_order.specs.declared.types.Form.{Form}
use Rattle.type_order.specs.declared.delegate.Pair.{Pair}

-- Each stored answer is yes or no, none met overflow, and the answers of all pairs that may be asked are settled, with
-- nested pairs that are reached. So two runs of each pair are enough, and the next question is decided, too.
pub record KeepsDeciding {C T : Type 0} (same : Pair → Pair → Bool) (forms : List Form)
    (cache : Cache C Pair Outcome T) : Type 0 where
  pub definite : AreDefinite outcome_verdicts same cache.results
  pub no_overflow : HaveNoOverflowOf (Contains (askable forms)) same cache.results
  pub settled : AreSettled outcome_verdicts same cache.nodes cache.results (askable forms)
  pub reached : StoredReachNested (λ pair. script_of (needs_of forms pair) (questions_of forms pair)) same
      (askable forms) cache.results

-- How a call ends that two runs of each goal are enough for: with a yes or a no, or for want of memory or by a request
-- out of order. The stored answers stay yes or no, and settled, and those of the goals without overflow.
pub record EndsDecided {D C V P F I R A T : Type 0} (G : DelegateOf D C V P F I R A T) (X : CxOf C I R A T)
    (same : I → I → Bool) (goals : List I) (cx : C) (result : Result (Answer R) (Fault I R))
    (new : Cache C I R T) : Type 0 where
  pub answer : IfOk result (λ answer. IsDefinite (verdicts X) answer.result)
  pub fault : IfErr result IsMemoryOrOrder
  pub definite : AreDefinite (verdicts X) same new.results
  pub no_overflow : HaveNoOverflowOf (Contains goals) same new.results
  pub settled : AreSettled (verdicts X) same new.nodes new.results goals
  pub suit : StoredSuit G.ENABLE_PROVISIONAL_CACHE (G.script cx) same goals new.results
