-- What is kept true of the stored answers from one question to the next, where all goals are decided.
use Rattle.std.specs.Prelude.{◌≡◌, ℕ, Bool, false, Contains, List, length, Result, IfOk, IfErr}
use Rattle.std.specs.List.{range_with_len}
use Rattle.trait_answers.specs.Below.{Answer, AreDefinite, AreSettled, Cache, candidates_of, CxOf, DelegateOf, Fault}
use Rattle.trait_answers.specs.Below.{HaveNoOverflowOf, IsDefinite, IsMemoryOrOrder, Memory, Outcome}
use Rattle.trait_answers.specs.Below.{outcome_verdicts, script_of, StoredReachNested, StoredSuit, Table, verdicts}
use Rattle.trait_answers.specs.declared.answers.Answered.{Answered}

-- the numbers of all goals
abbrev pub goals_of : Table → List ℕ
goals_of table = range_with_len 0 (length table.asked)

-- Each stored answer is yes or no, none of a goal met overflow, and those of all goals are settled, with nested goals
-- that are reached. So two runs of each goal are enough, and the next question is decided, too.
pub record KeepsDeciding {C T : Type 0} (same : ℕ → ℕ → Bool) (table : Table) (cache : Cache C ℕ Outcome T) :
    Type 0 where
  pub definite : AreDefinite outcome_verdicts same cache.results
  pub no_overflow : HaveNoOverflowOf (Contains (goals_of table)) same cache.results
  pub settled : AreSettled outcome_verdicts same cache.nodes cache.results (goals_of table)
  pub reached : StoredReachNested (λ goal. script_of (λ asked. asked) (candidates_of table goal)) same (goals_of table)
      cache.results

-- How a call ends that two runs of each goal are enough for: with a yes or a no, or for want of memory or by a request
-- out of order. No limit is met. The stored answers stay yes or no, and settled, and those of the goals without
-- overflow.
pub record EndsDecided {D C V P F I R A T : Type 0} (G : DelegateOf D C V P F I R A T) (X : CxOf C I R A T)
    (same : I → I → Bool) (goals : List I) (cx : C) (result : Result (Answer R) (Fault I R)) (met : Bool)
    (new : Cache C I R T) : Type 0 where
  pub answer : IfOk result (λ answer. IsDefinite (verdicts X) answer.result)
  pub fault : IfErr result IsMemoryOrOrder
  pub unmet : met ≡ false
  pub definite : AreDefinite (verdicts X) same new.results
  pub no_overflow : HaveNoOverflowOf (Contains goals) same new.results
  pub settled : AreSettled (verdicts X) same new.nodes new.results goals
  pub suit : StoredSuit G.ENABLE_PROVISIONAL_CACHE (G.script cx) same goals new.results

-- How a question ends whose goals are all decided: with a yes or a no, or for want of memory; no limit is met, and the
-- next question is decided, too.
pub record EndsTold {C T : Type 0} (same : ℕ → ℕ → Bool) (table : Table)
    (result : Result Answered (Fault ℕ Outcome)) (new : Cache C ℕ Outcome T) : Type 0 where
  pub answer : IfOk result (λ answered. IsDefinite outcome_verdicts answered.outcome)
  pub unmet : IfOk result (λ answered. answered.limits_met ≡ false)
  pub fault : IfErr result (λ fault. fault ≡ Memory)
  pub ready : KeepsDeciding same table new
