-- What the questions that a text names come to in a graph.
use Rattle.std.specs.Prelude.{◌≡◌, ℕ, All, Bool, Contains, IsSomeAnd, List, Option, slice_get, Some, true}
use Rattle.graph_texts.specs.Below.{Asking, Candidate, candidates_of, Edge, Goal, goal_nodes_of, HasEdge, Node, Outcome}
use Rattle.graph_texts.specs.Below.{Reply, Request, Rules, script_of}

-- the scripts of these rules
abbrev pub scripts_of : Rules → Goal → List (Reply Outcome) → Request Goal Outcome
scripts_of rules goal = script_of (candidates_of rules goal)

module _ (passes : Outcome → Bool) (nodes : List (Node Goal Outcome)) (place : ℕ) where
  -- The node at this place has an edge that asks the question, and that leads to a node of its goal whose
  -- result passes the test.
  pub record IsAnswered (asking : Asking) : Type 0 where
    pub edge : Edge Goal
    pub is_edge : HasEdge (goal_nodes_of nodes) place edge
    pub same_kind : edge.kind ≡ asking.kind
    pub target : Node Goal Outcome
    pub is_target : slice_get nodes edge.target ≡ Some target
    pub same_goal : target.input ≡ asking.goal
    pub has_result : passes target.result ≡ true

  -- a question of the rule is named, and answered so
  abbrev pub NamesAnswered : Candidate → Option Asking → Type 0
  NamesAnswered rule named = IsSomeAnd named (λ asking. Contains rule.questions asking × IsAnswered asking)

  -- one of these rules is named, and all its questions are answered so
  abbrev pub NamesHolding : List Candidate → Option Candidate → Type 0
  NamesHolding rules named = IsSomeAnd named (λ rule. Contains rules rule × All IsAnswered rule.questions)
