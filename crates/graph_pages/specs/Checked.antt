-- What is known of an answer that is shown.
use Rattle.std.specs.Prelude.{◌≡◌, ℕ, ◌<◌, ◌≤◌, ◌^◌, Err, IfErr, IfOk, length, List, None, Ok, Option, Result, Some, ⊤}
use Rattle.graph_pages.specs.Below.{Goal, goal_nodes_of, IsPlainTo, IsPlainValue, IsReached, IsValidFor, Maybe, Memory}
use Rattle.graph_pages.specs.Below.{No, Node, Outcome, Overflow, Reply, Request, SearchFault, Verdict, Verdicts, Yes}
use Rattle.search_context.specs.declared.context.Verdict.TheVariants as verdict
use Rattle.watched_runs.specs.declared.watch.Reason.{Reason}
use Rattle.graph_pages.specs.declared.answer.Came.{Came}
use Rattle.graph_pages.specs.declared.answer.Came.TheVariants.{Graph, NoGraph, Unchecked, Fault}

-- what a graph of the outcome has to show
abbrev pub verdict_of : Outcome → Verdict
verdict_of Yes = verdict.Yes
verdict_of No = verdict.No
verdict_of Maybe = verdict.Neither
verdict_of Overflow = verdict.Neither

-- each node is reached from the first
abbrev pub AreReached : List (Node Goal Outcome) → Type 0
AreReached nodes = (at : ℕ) → at < length nodes → IsReached (goal_nodes_of nodes) 0 at

-- The graph is valid for the goal and the outcome, and has no node beside those that show it; their places
-- are numbers of 64 bits.
pub record IsShownGraph (says : Verdicts Outcome) (scripts : Goal → List (Reply Outcome) → Request Goal Outcome)
    (goal : Goal) (outcome : Outcome) (nodes : List (Node Goal Outcome)) : Type 0 where
  pub is_valid : IsValidFor says (verdict_of outcome) scripts nodes goal
  pub are_reached : AreReached nodes
  pub count : length nodes < 2 ^ 64

-- the outcome of which something is shown, or the fault
abbrev pub outcome_of : Came → Result Outcome (SearchFault Goal Outcome)
outcome_of (Graph outcome nodes) = Ok outcome
outcome_of (NoGraph outcome reason) = Ok outcome
outcome_of (Unchecked outcome) = Ok outcome
outcome_of (Fault fault) = Err fault

-- the reason that is told of what is neither yes nor no
abbrev pub reason_of : Came → Option (Reason Goal)
reason_of (Graph outcome nodes) = None
reason_of (NoGraph outcome reason) = Some reason
reason_of (Unchecked outcome) = None
reason_of (Fault fault) = None

-- what is shown of the goal is such a graph, or it came to neither yes nor no, or to a fault; a graph
-- is never left unchecked
abbrev pub ShowsGraph : Verdicts Outcome → (Goal → List (Reply Outcome) → Request Goal Outcome) → Goal → Came → Type 0
ShowsGraph says scripts goal (Graph outcome nodes) = IsShownGraph says scripts goal outcome nodes.items
ShowsGraph says scripts goal (NoGraph outcome reason) = verdict_of outcome ≡ verdict.Neither
ShowsGraph says scripts goal (Unchecked outcome) = ⊥
ShowsGraph says scripts goal (Fault fault) = ⊤

-- What is shown of a question: its depth, and its goal.
pub record IsRightlyShown (says : Verdicts Outcome) (scripts : Goal → List (Reply Outcome) → Request Goal Outcome)
    (question : ℕ × Goal) (came : Came) : Type 0 where
  pub graph : ShowsGraph says scripts question.1 came
  -- A goal whose questions go no deeper than the depth, and that is orderly with all goals below it, came to its plain
  -- value, or memory was out.
  pub plain : (n : ℕ) → IsPlainTo scripts n question.1 → n ≤ question.0
      → IfOk (outcome_of came) (λ outcome. IsPlainValue scripts n question.1 outcome)
  pub plain_faults : (n : ℕ) → IsPlainTo scripts n question.1 → n ≤ question.0
      → IfErr (outcome_of came) (λ fault. fault ≡ Memory)

-- what is shown without a graph of an outcome that is neither yes nor no may be shown of any goal
abbrev pub ShowsNoGraph : Outcome → Came → Type 0
ShowsNoGraph outcome came = verdict_of outcome ≡ verdict.Neither
    → (says : Verdicts Outcome) (scripts : Goal → List (Reply Outcome) → Request Goal Outcome) (goal : Goal)
    → ShowsGraph says scripts goal came
