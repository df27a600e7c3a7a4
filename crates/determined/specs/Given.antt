-- Given questions: their truth is given, and they are not followed.
use Rattle.std.specs.Prelude.{◌≡◌, ℕ, Bool, true, false, ◌⊎◌, List, Contains, Option, None, Some}
use Rattle.determined.specs.Below.{AsksOnly, Coinductive, GraphNode, Inductive, IsGraph, IsOrderly, Question}
use Rattle.determined.specs.Below.{Reply, Request}
use Rattle.determined.specs.Closed.{IsDoneAfter}

-- `given` tells the truth of each given question, and nothing of the others
module _ {I : Type 0} (given : Question I → Option Bool) where
  -- the same as `IsClosed`, but questions that are given may lead out of the list
  pub record IsClosedButGiven {R : Type 0} (scripts : I → List (Reply R) → Request I R)
      (goals : List I) (most : ℕ) : Type 0 where
    pub stays : (goal : I) → Contains goals goal → AsksOnly
        (λ kind asked. given (record { kind = kind; goal = asked }) ≡ None → Contains goals asked) (scripts goal)
    pub is_orderly : (goal : I) → Contains goals goal → IsOrderly (scripts goal)
    pub is_done : (goal : I) → Contains goals goal → IsDoneAfter most (scripts goal)

  -- none of these questions is given, and together with given ones of this truth they show the goal by the rule
  pub record IsShownOver (truth : Bool) (rule : I → List (Question I) → Type 0) (goal : I)
      (questions : List (Question I)) : Type 0 where
    pub shown : List (Question I)
    pub by_rule : rule goal shown
    pub are_covered : (q : Question I) → Contains shown q → Contains questions q ⊎ (given q ≡ Some truth)
    pub are_followed : (q : Question I) → Contains questions q → given q ≡ None

  -- the goal has a proof graph over given questions that are true
  abbrev pub HasProofOver : (I → List (Question I) → Type 0) → I → Type 0
  HasProofOver proves goal =
      (nodes : List (GraphNode I)) × (root : ℕ) × IsGraph (IsShownOver true proves) Coinductive nodes root goal

  -- the goal has a refutation graph over given questions that are false
  abbrev pub HasRefutationOver : (I → List (Question I) → Type 0) → I → Type 0
  HasRefutationOver refutes goal =
      (nodes : List (GraphNode I)) × (root : ℕ) × IsGraph (IsShownOver false refutes) Inductive nodes root goal
