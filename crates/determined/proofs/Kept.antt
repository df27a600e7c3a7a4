-- Graphs of goals that stay, where rules change: without the edges that lead to goals that are gone, such a graph is
-- one by the rules after.
use Rattle.std.proofs.Common.{◌≡◌, ◌∙◌, ℕ, Bool, true, false, not, List, [], ◌∷◌, map, Option, None, Some, ap, refl}
use Rattle.std.proofs.Common.{Contains, subst, sym}
use Rattle.std.specs.Prelude.{filter, slice_get, IsSomeAnd}
use Rattle.std.specs.Option.{option_map}
use Rattle.std.proofs.lemmas.Option.{slice_get-map}
use Rattle.list_lemmas.proofs.Lists.{mapped_some}
use Rattle.list_lemmas.proofs.Members.{Contains-filtered, Contains-map, Contains-mapped, filtered_member}
use Rattle.search_context.proofs.Graphs.{IsReached-step}
use Rattle.determined.specs.Below.{Edge, GraphNode, HasEdge, HasGoal, IsGraph, IsReached, IsWalk, PathKind, Question}
use Rattle.determined.specs.Below.{question_of}
use Rattle.determined.specs.Closed.{HasProof, HasRefutation}
use Rattle.determined.specs.Kept.{KeepsRule}

module _ {I : Type 0} (is_gone : I → Bool) where
  abbrev stays : Edge I → Bool
  stays e = not (is_gone e.input)

  abbrev left_of : GraphNode I → GraphNode I
  left_of n = record { goal = n.goal; edges = filter stays n.edges }

  is_there : (b : Bool) → not b ≡ true → b ≡ false
  is_there true e = absurd cc
  is_there false e = refl

  is_left : (b : Bool) → b ≡ false → not b ≡ true
  is_left b e = ap not e

  -- an edge that is left was there, and leads to a goal that stays
  edge_left : (o : Option (GraphNode I)) (e : Edge I) → IsSomeAnd (option_map left_of o) (λ n. Contains n.edges e)
      → IsSomeAnd o (λ n. Contains n.edges e) × (is_gone e.input ≡ false)
  edge_left None e has = absurd has
  edge_left (Some n) e has =
      let was = filtered_member stays n.edges e has in (was.0, is_there (is_gone e.input) was.1)

  module _ (nodes : List (GraphNode I)) where
    abbrev left : List (GraphNode I)
    left = map left_of nodes

    had_edge : (at : ℕ) (e : Edge I) → HasEdge left at e → HasEdge nodes at e × (is_gone e.input ≡ false)
    had_edge at e has = edge_left (slice_get nodes at) e
        (subst (λ o. IsSomeAnd o (λ n. Contains n.edges e)) (slice_get-map left_of nodes at) has)

    was_walk : (from to : ℕ) (walk : List (Edge I)) → IsWalk left from walk to → IsWalk nodes from walk to
    was_walk from to [] w = w
    was_walk from to (e ∷ rest) w = ((had_edge from e w.0).0, was_walk e.target to rest w.1)

    same_goal : (o : Option (GraphNode I))
        → option_map (λ n. n.goal) (option_map left_of o) ≡ option_map (λ n. n.goal) o
    same_goal None = refl
    same_goal (Some n) = refl

    has_goal : (at : ℕ) (goal : I) → HasGoal nodes at goal → HasGoal left at goal
    has_goal at goal has = ap (option_map (λ n. n.goal)) (slice_get-map left_of nodes at)
        ∙ same_goal (slice_get nodes at) ∙ has

    goal_there : (at : ℕ) (n : GraphNode I) (goal : I) → slice_get nodes at ≡ Some n → HasGoal nodes at goal
        → n.goal ≡ goal
    goal_there at n goal is has =
        let same : Some n.goal ≡ Some goal = ap (option_map (λ m. m.goal)) (sym is) ∙ has in cc

    module _ (before after : I → List (Question I) → Type 0) (keeps : KeepsRule is_gone before after)
        (kind : PathKind) (root : ℕ) (goal : I) (graph : IsGraph before kind nodes root goal)
        (stays_there : is_gone goal ≡ false) where
      reached : (at : ℕ) → IsReached left root at → IsReached nodes root at
      reached at walk = (walk.0, was_walk root at walk.0 walk.1)

      -- whatever is reached is a goal that stays
      stays_on : (from to : ℕ) (walk : List (Edge I)) (g : I) → IsReached nodes root from → HasGoal nodes from g
          → is_gone g ≡ false → IsWalk left from walk to → (h : I) × HasGoal nodes to h × (is_gone h ≡ false)
      stays_on from to [] g there has stays w = (g, subst (λ at. HasGoal nodes at g) w has, stays)
      stays_on from to (e ∷ rest) g there has stays w =
          let edge = had_edge from e w.0 in
          stays_on e.target to rest e.input (IsReached-step nodes root from e there edge.0)
          (graph.closed from e there edge.0) edge.1 w.1

      -- the questions of a node on goals that stay are left
      question_left : (edges : List (Edge I)) (q : Question I) → Contains (map question_of edges) q
          → is_gone q.goal ≡ false → Contains (map question_of (filter stays edges)) q
      question_left edges q has stays_q =
          let w = Contains-map question_of edges q has in
          subst (Contains (map question_of (filter stays edges))) w.2
          (Contains-mapped question_of (filter stays edges) w.0 (Contains-filtered stays edges w.0 w.1
          (is_left (is_gone w.0.input) (ap (λ (asked : Question I). is_gone asked.goal) w.2 ∙ stays_q))))

      shown_after : (at : ℕ) (n : GraphNode I) → IsReached left root at → slice_get left at ≡ Some n
          → after n.goal (map question_of n.edges)
      shown_after at n there is =
          let w = mapped_some left_of (slice_get nodes at) n (sym (slice_get-map left_of nodes at) ∙ is) in
          let on = stays_on root at there.0 goal ([], refl) graph.rooted stays_there there.1 in
          let same : w.0.goal ≡ on.0 = goal_there at w.0 on.0 w.1 on.1 in
          subst (λ (m : GraphNode I). after m.goal (map question_of m.edges)) w.2
          (keeps w.0.goal (map question_of w.0.edges) (map question_of (filter stays w.0.edges))
          (ap is_gone same ∙ on.2) (question_left w.0.edges)
          (graph.is_shown at w.0 (reached at there) w.1))

      graph_stays : IsGraph after kind left root goal
      graph_stays = record {
        rooted = has_goal root goal graph.rooted;
        closed = λ at e there has.
            has_goal e.target e.input (graph.closed at e (reached at there) (had_edge at e has).0);
        is_shown = shown_after;
        cycles = λ at e rest there w. graph.cycles at e rest (reached at there) (was_walk at at (e ∷ rest) w);
      }

module _ {I : Type 0} (is_gone : I → Bool) (before after : I → List (Question I) → Type 0)
    (keeps : KeepsRule is_gone before after) (goal : I) (stays : is_gone goal ≡ false) where
  pub proof_stays : HasProof before goal → HasProof after goal
  proof_stays (nodes, root, graph) =
      (left is_gone nodes, root, graph_stays is_gone nodes before after keeps _ root goal graph stays)

  pub refutation_stays : HasRefutation before goal → HasRefutation after goal
  refutation_stays (nodes, root, graph) =
      (left is_gone nodes, root, graph_stays is_gone nodes before after keeps _ root goal graph stays)
