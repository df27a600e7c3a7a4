-- The nodes of which graphs of answers are made. A node stands for one run of a goal. It is open until that run has
-- ended, and never changes from then on, but that it may be let go once nothing leads to it or its goal is gone.
use Rattle.std.specs.Prelude.{◌≡◌, ℕ, Bool, true, false, if◌then◌else◌, List, [], map, reverse, Option, None, Some}
use Rattle.std.specs.Prelude.{Contains, slice_get, slice_set}
use Rattle.std.specs.Option.{option_map}
use Rattle.search_context.specs.declared.context.Request.{Request}
use Rattle.search_context.specs.declared.context.Reply.{Reply}
use Rattle.search_context.specs.declared.context.Edge.{Edge}
use Rattle.search_context.specs.Question.{Question}
use Rattle.search_context.specs.Run.{EndsIn, Progress, progress_after, questions_answered}
use Rattle.search_context.specs.Graph.{GraphNode, question_of}
use Rattle.search_context.specs.Verdicts.{Verdicts}

-- a run that has ended: its replies, the oldest first, the questions that its result rests on, and the result
pub record EndedRun (I R : Type 0) : Type 0 where
  pub replies : List (Reply R)
  pub edges : List (Edge I)
  pub outcome : R

-- A goal, and its run once that has ended. A node that was let go is gone: its number stays, with some
-- goal and without a run.
pub record CacheNode (I R : Type 0) : Type 0 where
  pub goal : I
  pub run : Option (EndedRun I R)
  pub gone : Bool

-- a node whose run has not ended
abbrev pub open_node : {I R : Type 0} → I → CacheNode I R
open_node goal = record { goal = goal; run = None; gone = false }

-- a number whose node was let go
abbrev pub gone_node : {I R : Type 0} → I → CacheNode I R
gone_node goal = record { goal = goal; run = None; gone = true }

-- the goal of a node that is open
abbrev pub goal_if_open : {I R : Type 0} → CacheNode I R → Option I
goal_if_open n = elim n.run [ None ↦ if n.gone then None else Some n.goal | Some run ↦ None ]

-- the goal of the node, if that is in the list and open
abbrev pub open_goal : {I R : Type 0} → List (CacheNode I R) → ℕ → Option I
open_goal nodes at = elim (slice_get nodes at) [ None ↦ None | Some n ↦ goal_if_open n ]

-- the node, if it is in the list and its run has ended
abbrev pub finished_node : {I R : Type 0} → List (CacheNode I R) → ℕ → Option (CacheNode I R)
finished_node nodes at =
    elim (slice_get nodes at) [ None ↦ None | Some n ↦ elim n.run [ None ↦ None | Some run ↦ Some n ] ]

-- the list once the node's run has ended
abbrev pub with_run : {I R : Type 0} → List (CacheNode I R) → ℕ → EndedRun I R → List (CacheNode I R)
with_run nodes at run =
    elim (slice_get nodes at) [ None ↦ nodes | Some n ↦ slice_set nodes at (record n { run = Some run }) ]

-- the node at a place is of this goal
abbrev pub IsNodeOf : {I R : Type 0} → List (CacheNode I R) → ℕ → I → Type 0
IsNodeOf nodes at goal = option_map (λ n. n.goal) (slice_get nodes at) ≡ Some goal

-- the run that ended so
abbrev pub ended_run : {I R : Type 0} → List (Reply R) → List (Edge I) → R → EndedRun I R
ended_run replies edges outcome = record { replies = replies; edges = edges; outcome = outcome }

-- each node is still at its place
abbrev pub KeepsNodes : {I R : Type 0} → List (CacheNode I R) → List (CacheNode I R) → Type 0
KeepsNodes {I} {R} old new = (at : ℕ) (n : CacheNode I R) → slice_get old at ≡ Some n → slice_get new at ≡ Some n

-- each node whose run has ended is still the same
abbrev pub KeepsFinished : {I R : Type 0} → List (CacheNode I R) → List (CacheNode I R) → Type 0
KeepsFinished {I} {R} old new =
    (at : ℕ) (n : CacheNode I R) → finished_node old at ≡ Some n → finished_node new at ≡ Some n

-- each node still has its goal
abbrev pub KeepsGoals : {I R : Type 0} → List (CacheNode I R) → List (CacheNode I R) → Type 0
KeepsGoals {I} old new = (at : ℕ) (goal : I) → IsNodeOf old at goal → IsNodeOf new at goal

-- the question was asked and answered
abbrev pub WasAsked : {I R : Type 0} → Progress I R → Question I → Type 0
WasAsked p question = Contains (map (λ a. a.question) p.asked) question

-- The run is one of this script: its replies end in its result, with no request out of order. Where the result is yes,
-- the edges are the questions outside ignored candidates that were answered yes, in the order of asking; where it is
-- no, those that were answered no. Each edge asks what the run asked, and leads to a node of the goal that it asks.
pub record IsRun {I R : Type 0} (says : Verdicts R) (script : List (Reply R) → Request I R)
    (nodes : List (CacheNode I R)) (run : EndedRun I R) : Type 0 where
  pub ends : EndsIn script (reverse run.replies) run.outcome
  pub yes : says.is_yes run.outcome ≡ true
      → map question_of run.edges ≡ questions_answered says.is_yes (progress_after script (reverse run.replies))
  pub no : says.is_no run.outcome ≡ true
      → map question_of run.edges ≡ questions_answered says.is_no (progress_after script (reverse run.replies))
  pub asked : (i : ℕ) (e : Edge I) → slice_get run.edges i ≡ Some e
      → WasAsked (progress_after script (reverse run.replies)) (question_of e)
  pub targets : (i : ℕ) (e : Edge I) → slice_get run.edges i ≡ Some e → IsNodeOf nodes e.target e.input

-- each run of the list that has ended is one of its goal
abbrev pub AreRuns : {I R : Type 0} → Verdicts R → (I → List (Reply R) → Request I R) → List (CacheNode I R) → Type 0
AreRuns {I} {R} says scripts nodes =
    (at : ℕ) (n : CacheNode I R) (run : EndedRun I R)
    → slice_get nodes at ≡ Some n → n.run ≡ Some run → IsRun says (scripts n.goal) nodes run

-- the list as the nodes of a graph of goals, at the same places; an open node has no edges
abbrev pub graph_node_of : {I R : Type 0} → CacheNode I R → GraphNode I
graph_node_of n = record { goal = n.goal; edges = elim n.run [ None ↦ [] | Some run ↦ run.edges ] }

-- the list as nodes of a graph
abbrev pub graph_nodes_of : {I R : Type 0} → List (CacheNode I R) → List (GraphNode I)
graph_nodes_of nodes = map graph_node_of nodes
