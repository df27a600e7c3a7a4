-- What the answers of goals say of types and traits.
use Rattle.std.specs.Prelude.{◌≡◌, ◌<◌, ◌≤◌, ℕ, List, length, slice_get, Some, Result, Ok, Err}
use Rattle.delegate_parts.specs.declared.outcome.Outcome.{Outcome}
use Rattle.delegate_parts.specs.declared.outcome.Outcome.TheVariants.{No, Yes}
use Rattle.search_context.specs.declared.context.Fault.{Fault}
use Rattle.search_context.specs.declared.context.Fault.TheVariants.{Memory}
use Rattle.trait_goals.specs.Decided.{AreAllDecided}
use Rattle.trait_goals.specs.Known.{Table}
use Rattle.trait_answers.specs.Answered.{IsImplemented, IsNotImplemented, IsTold}

-- a yes says that its goal's type implements its trait, and a no that it does not
pub record IsRight (table : Table) (goal : ℕ) (came : Result Outcome (Fault ℕ Outcome)) : Type 0 where
  pub yes : came ≡ Ok Yes → IsImplemented table goal
  pub no : came ≡ Ok No → IsNotImplemented table goal

-- each goal has an answer that is right
pub record AreRight (table : Table) (goals : List ℕ) (came : List (Result Outcome (Fault ℕ Outcome))) : Type 0 where
  pub each : (place goal : ℕ) (answer : Result Outcome (Fault ℕ Outcome)) → slice_get goals place ≡ Some goal →
      slice_get came place ≡ Some answer → IsRight table goal answer

-- the answer is a yes or a no that is right, or memory was out
abbrev pub IsAnswered : Table → ℕ → Result Outcome (Fault ℕ Outcome) → Type 0
IsAnswered table goal (Ok outcome) = IsTold table goal outcome
IsAnswered table goal (Err fault) = fault ≡ Memory

-- each of the goals that is one of the table has such an answer
pub record AreAnswered (table : Table) (goals : List ℕ) (came : List (Result Outcome (Fault ℕ Outcome))) :
    Type 0 where
  pub each : (place goal : ℕ) (answer : Result Outcome (Fault ℕ Outcome)) → slice_get goals place ≡ Some goal →
      goal < length table.asked → slice_get came place ≡ Some answer → IsAnswered table goal answer

-- that is so where all goals of the table are decided, and the depth is at least their number
abbrev pub AreAnsweredAt : ℕ → Table → List ℕ → List (Result Outcome (Fault ℕ Outcome)) → Type 0
AreAnsweredAt depth table goals came =
    AreAllDecided table → length table.asked ≤ depth → AreAnswered table goals came
