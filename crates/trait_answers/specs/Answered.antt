-- What an answer says of a goal, whatever type and trait it asks for.
use Rattle.std.specs.Prelude.{◌<◌, ◌≤◌, ℕ, length}
use Rattle.trait_answers.specs.Below.{AreAllDecided, Implements, IsAsked, Maybe, No, Outcome, Overflow, Table, Term}
use Rattle.trait_answers.specs.Below.{Yes}

-- its type implements its trait
abbrev pub IsImplemented : Table → ℕ → Type 0
IsImplemented table goal = (term : Term) (bound : ℕ) → IsAsked table.made table.asked goal term bound →
    Implements table.rules term bound

-- its type does not
abbrev pub IsNotImplemented : Table → ℕ → Type 0
IsNotImplemented table goal = (term : Term) (bound : ℕ) → IsAsked table.made table.asked goal term bound →
    Implements table.rules term bound → ⊥

-- the answer is yes and the type implements the trait, or it is no and the type does not
abbrev pub IsTold : Table → ℕ → Outcome → Type 0
IsTold table goal Yes = IsImplemented table goal
IsTold table goal No = IsNotImplemented table goal
IsTold table goal Maybe = ⊥
IsTold table goal Overflow = ⊥

-- All goals of the table are decided, this is one of them, and the depth is at least their number.
pub record CanBeTold (table : Table) (goal depth : ℕ) : Type 0 where
  pub all : AreAllDecided table
  pub is_goal : goal < length table.asked
  pub deep : length table.asked ≤ depth
