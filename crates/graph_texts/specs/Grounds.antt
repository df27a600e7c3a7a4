-- What a node rests on: the questions of its edges. They say by which rule its goal holds, and at which
-- question each rule fails.
use Rattle.std.specs.Prelude.{◌↔◌, All, Contains, List, map, Option, None, Some}
use Rattle.graph_texts.specs.Below.{Asking, Candidate, Edge, Goal, PathKind}

-- a question, and the question of an edge
abbrev pub asked_by : Asking → PathKind × Goal
asked_by asking = (asking.kind, asking.goal)

abbrev pub question_of : Edge Goal → PathKind × Goal
question_of edge = (edge.kind, edge.input)

-- these are the questions of the edges
abbrev pub AreQuestions : List (Edge Goal) → List (PathKind × Goal) → Type 0
AreQuestions edges questions =
    (question : PathKind × Goal) → Contains questions question ↔ Contains (map question_of edges) question

module _ (questions : List (PathKind × Goal)) where
  -- the question is one of these
  abbrev pub IsAsked : Asking → Type 0
  IsAsked asking = Contains questions (asked_by asking)

  -- all questions of the rule are
  abbrev pub Holds : Candidate → Type 0
  Holds candidate = All IsAsked candidate.questions

  -- This question of the rule is, or none of its questions is.
  abbrev pub FailsAt : Candidate → Option Asking → Type 0
  FailsAt candidate (Some asking) = Contains candidate.questions asking × IsAsked asking
  FailsAt candidate None = All (λ asking. ¬ IsAsked asking) candidate.questions
