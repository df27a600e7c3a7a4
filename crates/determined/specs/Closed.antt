-- Finite lists of goals that no question leads out of.
use Rattle.std.specs.Prelude.{◌≡◌, ◌↔◌, ◌⊎◌, ℕ, ◌≤◌, true, List, Contains, length}
use Rattle.determined.specs.Below.{GraphNode, IsFitting, IsOrderly, IsProofGraph, IsRefutationGraph, NoQuestionLeadsOut}
use Rattle.determined.specs.Below.{Question, Reply, Request, Verdicts}

-- whatever is answered, the script is done after so many replies at most
abbrev pub IsDoneAfter : {I R : Type 0} → ℕ → (List (Reply R) → Request I R) → Type 0
IsDoneAfter {I} {R} most script = (replies : List (Reply R)) → IsFitting script replies → length replies ≤ most

-- Whatever is answered, each goal of the list asks goals of the list alone, makes no request out of order, and is
-- done after so many replies at most.
pub record IsClosed {I R : Type 0} (scripts : I → List (Reply R) → Request I R)
    (goals : List I) (most : ℕ) : Type 0 where
  pub stays : NoQuestionLeadsOut scripts goals
  pub is_orderly : (goal : I) → Contains goals goal → IsOrderly (scripts goal)
  pub is_done : (goal : I) → Contains goals goal → IsDoneAfter most (scripts goal)

-- one of the two holds, and not both
abbrev pub ExactlyOne : Type 0 → Type 0 → Type 0
ExactlyOne P Q = (P ⊎ Q) × (P → Q → ⊥)

-- the goal has a proof graph
abbrev pub HasProof : {I : Type 0} → (I → List (Question I) → Type 0) → I → Type 0
HasProof {I} proves goal = (nodes : List (GraphNode I)) × (root : ℕ) × IsProofGraph proves nodes root goal

-- the goal has a refutation graph
abbrev pub HasRefutation : {I : Type 0} → (I → List (Question I) → Type 0) → I → Type 0
HasRefutation {I} refutes goal = (nodes : List (GraphNode I)) × (root : ℕ) × IsRefutationGraph refutes nodes root goal

-- the result is yes exactly if the goal has a proof graph, and no exactly if it has a refutation graph
pub record IsExact {I R : Type 0} (says : Verdicts R)
    (proves refutes : I → List (Question I) → Type 0) (goal : I) (r : R) : Type 0 where
  pub yes_exactly : (says.is_yes r ≡ true) ↔ HasProof proves goal
  pub no_exactly : (says.is_no r ≡ true) ↔ HasRefutation refutes goal
