-- What walks from a node come to, that stop at goals under evaluation and at further nodes.
use Rattle.std.specs.Prelude.{◌⊎◌, ℕ, List}
use Rattle.open_graphs.specs.Graph as theory
use Rattle.open_graphs.specs.Stack.{IsLeaf}
use Rattle.open_graphs.specs.Use as theory_use
use Rattle.two_runs.specs.Below.{CacheNode, Entry, IsNodeOf, shapes_of, Verdicts}

-- a step from a node at which walks do not stop
pub record StepOn (nodes : List theory.Node) (verdict : theory.Verdict) (stack : List Entry) (Stops : ℕ → Type 0)
    (source kind target : ℕ) : Type 0 where
  pub step : theory_use.Step nodes verdict stack source kind target
  pub on : Stops source → ⊥

-- each node that such a walk comes to is one at which walks stop, or it is finished with the
-- verdict, and this holds of it
abbrev pub WalksTo : List theory.Node → theory.Verdict → List Entry → (Stops Inner : ℕ → Type 0) → ℕ → Type 0
WalksTo nodes verdict stack Stops Inner a =
    (b q : ℕ) → theory.Walk (StepOn nodes verdict stack Stops) a q b
    → IsLeaf stack b ⊎ (Stops b ⊎ (theory.IsFinished nodes verdict b × Inner b))

module _ {I R : Type 0} where
  -- the node's goal is one of which this holds
  abbrev pub HasSuchGoal : List (CacheNode I R) → (I → Type 0) → ℕ → Type 0
  HasSuchGoal nodes Holds b = (goal : I) → IsNodeOf nodes b goal → Holds goal

  -- each node that such a walk comes to is one at which walks stop, or its goal is one of which this holds
  abbrev pub WalksToGoals : Verdicts R → List (CacheNode I R) → (ℕ → Type 0) → (I → Type 0)
      → theory.Verdict → List Entry → ℕ → Type 0
  WalksToGoals says nodes Stops Holds verdict stack =
      WalksTo (shapes_of says nodes) verdict stack Stops (HasSuchGoal nodes Holds)
