-- Where each place of a set has its reasons, each of them has a graph. Reasons are questions that show the place's
-- goal, each of which is given or leads to a place of the set by a step that is allowed.
use Rattle.std.proofs.Common.{◌≡◌, ℕ, ◌<◌, Bool, true, ◌⊎◌, inl, inr, List, [], Contains, Option, None, Some}
use Rattle.std.proofs.Common.{refl, subst}
use Rattle.std.proofs.lemmas.Bool.{cases_Bool}
use Rattle.search_context.proofs.Graphs.{Contains-map}
use Rattle.determined.specs.Below.{Edge, GraphNode, IsGraph, PathKind, Question, question_of}
use Rattle.determined.specs.Given.{IsShownOver}
use Rattle.determined.proofs.Built.{AreSteps, HasEdges, IsGoodEdge, IsGoodNode, has_edges, is_graph, listed}

module _ {I : Type 0} (given : Question I → Option Bool) (yes : Bool) (rule : I → List (Question I) → Type 0)
    (kind : PathKind) (Steps Goes : ℕ → PathKind → ℕ → Type 0) (lawful : AreSteps kind Steps Goes)
    (n : ℕ) (goal_at : ℕ → I) (set : ℕ → Bool) where
  -- the question leads to a place of its goal
  pub record LeadsOn (x : ℕ) (q : Question I) : Type 0 where
    pub is_followed : given q ≡ None
    pub place : ℕ
    pub within : place < n
    pub has_goal : goal_at place ≡ q.goal
    pub is_in : set place ≡ true
    pub is_step : Steps x q.kind place

  pub record HasReasons (x : ℕ) : Type 0 where
    pub shown : List (Question I)
    pub by_rule : rule (goal_at x) shown
    pub lead_on : (q : Question I) → Contains shown q → (given q ≡ Some yes) ⊎ LeadsOn x q

  -- a good edge, whose question is not given
  abbrev IsEdge : ℕ → Edge I → Type 0
  IsEdge x e = (given (question_of e) ≡ None)
      × IsGoodEdge (IsShownOver given yes rule) kind Steps Goes lawful n goal_at (λ y. set y ≡ true) x e

  abbrev IsNode : ℕ → GraphNode I → Type 0
  IsNode = IsGoodNode (IsShownOver given yes rule) kind Steps Goes lawful n goal_at (λ y. set y ≡ true)

  edge_of : (x : ℕ) (q : Question I) → (given q ≡ Some yes) ⊎ LeadsOn x q
      → (given q ≡ Some yes) ⊎ ((e : Edge I) × (question_of e ≡ q) × IsEdge x e)
  edge_of x q (inl told) = inl told
  edge_of x q (inr l) = inr (
    record { kind = q.kind; input = q.goal; target = l.place },
    refl,
    (l.is_followed, record { within = l.within; asks = l.has_goal; is_in = l.is_in; steps = l.is_step }),
  )

  node_by : (x : ℕ) → HasReasons x → (node : GraphNode I) × IsNode x node
  node_by x reasons =
      let h : HasEdges (IsEdge x) (λ q. given q ≡ Some yes) reasons.shown =
      has_edges (IsEdge x) (λ q. given q ≡ Some yes) reasons.shown (λ q has. edge_of x q (reasons.lead_on q has)) in (
        record { goal = goal_at x; edges = h.edges },
        record {
          has_goal = refl;
          is_shown = λ inside. record {
            shown = reasons.shown;
            by_rule = reasons.by_rule;
            are_covered = h.are_all;
            are_followed = λ q has. let m = Contains-map question_of h.edges q has in
                subst (λ p. given p ≡ None) m.2 (h.are_good m.0 m.1).0;
          };
          are_good = λ inside e has. (h.are_good e has).1;
        },
      )

  module _ (reasons : (x : ℕ) → x < n → set x ≡ true → HasReasons x) where
    -- a place that is not in the set gets a node without edges, to which nothing leads
    node_at : (x : ℕ) → x < n → (node : GraphNode I) × IsNode x node
    node_at x l =
        elim (cases_Bool (set x)) [
          | inl is ↦ node_by x (reasons x l is)
          | inr out ↦ (
            record { goal = goal_at x; edges = [] },
            record { has_goal = refl; is_shown = λ is. absurd cc; are_good = λ is. absurd cc },
          )
        ]

    pub graph_of : (x : ℕ) → x < n → set x ≡ true
        → (nodes : List (GraphNode I)) × (root : ℕ) × IsGraph (IsShownOver given yes rule) kind nodes root (goal_at x)
    graph_of x l is =
        let nodes = listed IsNode n node_at in (
          nodes.items,
          x,
          is_graph (IsShownOver given yes rule) kind Steps Goes lawful n goal_at
              (λ y. set y ≡ true) nodes.items nodes.at x l is,
        )
