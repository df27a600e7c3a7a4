-- What a graph shows of its places, and what follows along steps of kinds that no closed walk of it has. A closed
-- walk of a proof graph is coinductive: where goals ask inductively alone, there is none, and all that the graph
-- proves is proved from below.
use Rattle.std.proofs.Common.{◌≡◌, ℕ, List, [], map, slice_get, Contains, Some, refl, sym, ap, ap₂, subst}
use Rattle.search_context.proofs.Graphs.{Contains-map, goal_node, HasEdge-from, IsReached-step}
use Rattle.question_lists.specs.Below.{Coinductive, Edge, GraphNode, HasEdge, HasGoal, Inductive, IsGraph, IsProofGraph}
use Rattle.question_lists.specs.Below.{IsReached, PathKind, Question, greater_kind, question_of}
use Rattle.question_lists.proofs.Walks.{holds_at, leads_by}

module _ {I : Type 0} (rule : I → List (Question I) → Type 0) (kind : PathKind) (nodes : List (GraphNode I)) (root : ℕ)
    (goal : I) (graph : IsGraph rule kind nodes root goal) where
  -- an edge of a place that asks a question, and leads to its goal
  pub record Asks (at : ℕ) (q : Question I) : Type 0 where
    pub edge : Edge I
    pub has_edge : HasEdge nodes at edge
    pub is_kind : edge.kind ≡ q.kind
    pub is_reached : IsReached nodes root edge.target
    pub has_goal : HasGoal nodes edge.target q.goal

  asks_by : (at : ℕ) (e : Edge I) (q : Question I) → IsReached nodes root at
      → HasEdge nodes at e → question_of e ≡ q → Asks at q
  asks_by at e q reached has same = record {
    edge = e;
    has_edge = has;
    is_kind = ap (λ p. p.kind) same;
    is_reached = IsReached-step nodes root at e reached has;
    has_goal = subst (HasGoal nodes e.target) (ap (λ p. p.goal) same) (graph.closed at e reached has);
  }

  -- the questions by which a place's goal is shown, each with its edge
  pub record IsShown (at : ℕ) (asked : I) : Type 0 where
    pub shown : List (Question I)
    pub by_rule : rule asked shown
    pub follow : (q : Question I) → Contains shown q → Asks at q

  shown_at : (at : ℕ) (asked : I) (n : GraphNode I) → slice_get nodes at ≡ Some n → n.goal ≡ asked
      → IsReached nodes root at → IsShown at asked
  shown_at at asked n is same reached = record {
    shown = map question_of n.edges;
    by_rule = subst (λ g. rule g (map question_of n.edges)) same (graph.is_shown at n reached is);
    follow = λ q has. let e = Contains-map question_of n.edges q has in
        asks_by at e.0 q reached (HasEdge-from nodes at n e.0 is e.1) e.2;
  }

  pub is_shown : (at : ℕ) (asked : I) → IsReached nodes root at → HasGoal nodes at asked → IsShown at asked
  is_shown at asked reached has =
      let n = goal_node (slice_get nodes at) asked has in shown_at at asked n.0 n.1 n.2 reached

module _ {I : Type 0} (rule : I → List (Question I) → Type 0) (kind : PathKind) (nodes : List (GraphNode I)) (root : ℕ)
    (goal : I) (graph : IsGraph rule kind nodes root goal)
    (such : PathKind → Type 0) (both : (k l : PathKind) → such k → such l → such (greater_kind k l))
    (apart : such kind → ⊥) where
  module _ (holds : I → Type 0)
      (holds_by : (at : ℕ) (asked : I) (s : IsShown rule kind nodes root goal graph at asked)
      → ((q : Question I) → Contains s.shown q → such q.kind → holds q.goal) → holds asked) where
    -- what follows at each place from the goals of such questions, holds at each
    pub holds_along : (at : ℕ) (asked : I) → IsReached nodes root at → HasGoal nodes at asked → holds asked
    holds_along at asked reached =
        holds_at rule kind nodes root goal graph such both apart
        (λ place. (own : I) → HasGoal nodes place own → holds own)
        (λ place r led own has.
        let s = is_shown rule kind nodes root goal graph place own r has in
        holds_by place own s (λ q among k.
        let a = s.follow q among in
        led a.edge.target (leads_by nodes such place a.edge a.has_edge (subst such (sym a.is_kind) k))
        q.goal a.has_goal)) at reached asked

-- what follows by the rule from the inductive questions that prove it, holds at the root
module _ {I : Type 0} (rule : I → List (Question I) → Type 0) (nodes : List (GraphNode I)) (root : ℕ) (goal : I)
    (proof : IsProofGraph rule nodes root goal) where
  pub holds_from : (holds : I → Type 0) →
      ((asked : I) (shown : List (Question I)) → rule asked shown →
      ((q : Question I) → Contains shown q → q.kind ≡ Inductive → holds q.goal) → holds asked) → holds goal
  holds_from holds holds_by =
      holds_along rule Coinductive nodes root goal proof (λ k. k ≡ Inductive)
      (λ k l e f. ap₂ greater_kind e f) (λ e. absurd cc) holds
      (λ at asked s. holds_by asked s.shown s.by_rule) root goal ([], refl) proof.rooted
