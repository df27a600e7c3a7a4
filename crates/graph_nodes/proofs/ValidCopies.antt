-- A copy of what a definite result's node reaches is valid.
use Rattle.std.proofs.Common.{◌≡◌, ◌≢◌, ℕ, ◌<◌, Bool, true, false, List, ◌∷◌, map, length, Some, option_map, slice_get}
use Rattle.std.proofs.Common.{slice_index, refl, sym, ◌∙◌, ap, subst, arith}
use Rattle.std.proofs.lemmas.List.{length-map}
use Rattle.std.proofs.lemmas.Option.{slice_get-map, slice_get_within, get_or_from_slice_get}
use Rattle.open_graphs.specs.Graph as theory
use Rattle.graph_nodes.specs.Below.{PathKind, Inductive, Coinductive, Edge, Node, NodeId, Reply, Request, HasGoal}
use Rattle.graph_nodes.specs.Below.{HasEdge, IsWalk, IsCopy, original_edge, walk_kind, verdict_of, goal_node_of}
use Rattle.graph_nodes.specs.Below.{goal_nodes_of, IsRunOfSort, IsValid, Verdicts}
use Rattle.graph_nodes.specs.Words.{EndedRun, CacheNode, IsNodeOf, IsRun, AreRuns, graph_node_of, graph_nodes_of}
use Rattle.graph_nodes.specs.Words.{HasGraph, original_node, Copies, shapes_of}
use Rattle.search_context.specs.Graph.{IsGraph}
use Rattle.list_lemmas.proofs.Lists.{mapped_some}
use Rattle.graph_nodes.proofs.Bridge.{Ended, IsSort, yes_sort, no_sort, ended_at, known_at, has_graph}
use Rattle.search_context.proofs.Copies.{node_with_edge, original_has, original_walk, copy_goal}
use Rattle.search_context.proofs.Copies.{same_questions, same_walk_kind}
use Rattle.graph_nodes.proofs.Definites.{yes_verdict, no_verdict}
use Rattle.graph_nodes.proofs.HandedOut.{original_there}

module _ {I R : Type 0} (says : Verdicts R) (scripts : I → List (Reply R) → Request I R)
    (nodes : List (CacheNode I R)) (runs : AreRuns says scripts nodes)
    (root : ℕ) (copy : List (Node I R)) (numbers : List ℕ) (c : Copies nodes root copy numbers) where
  as_goals : length (goal_nodes_of copy) ≡ length copy
  as_goals = length-map copy goal_node_of

  -- the copy is one of the graph of goals
  is_copy : IsCopy (graph_nodes_of nodes) (goal_nodes_of copy) (slice_index numbers)
  is_copy = record {
    same = λ at m is.
        let n = mapped_some goal_node_of (slice_get copy at) m (sym (slice_get-map goal_node_of copy at) ∙ is) in
        subst (λ x. slice_get (graph_nodes_of nodes) (slice_index numbers at)
        ≡ Some (record { goal = x.goal; edges = map (original_edge (slice_index numbers)) x.edges })) n.2
        (slice_get-map graph_node_of nodes (slice_index numbers at)
        ∙ ap (option_map graph_node_of) (original_there nodes root copy numbers c at n.0 n.1));
    inside = λ at e has. subst (λ l. e.target < l) (sym as_goals) (c.inside at e has);
  }

  edge_within : (at : ℕ) (e : Edge I) → HasEdge (goal_nodes_of copy) at e → at < length copy
  edge_within at e has = let n = node_with_edge copy at e has in slice_get_within copy at n.0 n.1

  module _ (verdict : theory.Verdict) (test : R → Bool) (kind : PathKind) (of_sort : IsSort I says verdict test kind)
      (goal : I) (is : IsNodeOf nodes root goal)
      (known : theory.IsClosedGraph (shapes_of says nodes) verdict root) where
    graph : IsGraph (λ _ _. Unit {0}) kind (graph_nodes_of nodes) root goal
    graph = has_graph says scripts nodes runs verdict (λ _ _. Unit {0}) kind
        of_sort.cycles (λ _ _ _ _. tt) root goal is known

    first_is : slice_index numbers 0 ≡ root
    first_is = get_or_from_slice_get numbers 0 root 0 c.rooted

    first_within : 0 < length copy
    first_within = let l : 0 < length numbers = slice_get_within numbers 0 root c.rooted in omega (arith, c.each)

    known_there : (at : ℕ) → at < length copy
        → theory.IsClosedGraph (shapes_of says nodes) verdict (slice_index numbers at)
    known_there at l = known_at says nodes verdict root (slice_index numbers at) known (c.reached at l)

    abbrev run_there : Node I R → EndedRun I R
    run_there n = record {
      replies = n.replies.items;
      edges = map (original_edge (slice_index numbers)) n.edges.items;
      outcome = n.result;
    }

    verdict_there : (at : ℕ) (n : Node I R) → slice_get copy at ≡ Some n
        → Ended says verdict (slice_get nodes (slice_index numbers at)) → verdict_of says n.result ≡ verdict
    verdict_there at n there ended =
        let nodes_same : Some (original_node (slice_index numbers) n) ≡ Some ended.node =
        sym (original_there nodes root copy numbers c at n there) ∙ ended.is in
        let node_same : original_node (slice_index numbers) n ≡ ended.node = cc in
        let runs_same : Some (run_there n) ≡ Some ended.run = ap (λ x. x.run) node_same ∙ ended.ended in
        let run_same : run_there n ≡ ended.run = cc in
        ap (λ r. verdict_of says r.outcome) run_same ∙ ended.sort

    run_at : (at : ℕ) (n : Node I R) → slice_get copy at ≡ Some n → IsRunOfSort test (scripts n.input) n
    run_at at n there =
        let known_here = known_there at (slice_get_within copy at n there) in
        let sort : test n.result ≡ true = of_sort.passes n.result
        (verdict_there at n there (ended_at says nodes verdict (slice_index numbers at) known_here)) in
        let is_run : IsRun says (scripts n.input) nodes (run_there n) =
        runs (slice_index numbers at) (original_node (slice_index numbers) n) (run_there n)
        (original_there nodes root copy numbers c at n there) refl in
        record {
          ends = is_run.ends;
          sort = sort;
          edges = sym (same_questions (slice_index numbers) n.edges.items)
              ∙ of_sort.edges nodes (scripts n.input) (run_there n) is_run sort;
        }

    goal_there : (at : ℕ) (g : I) → at < length copy
        → HasGoal (graph_nodes_of nodes) (slice_index numbers at) g → HasGoal (goal_nodes_of copy) at g
    goal_there at g l h = copy_goal (graph_nodes_of nodes) (goal_nodes_of copy) (slice_index numbers) is_copy at g
        (subst (λ x. at < x) (sym as_goals) l) h

    has_original : (at : ℕ) (e : Edge I) → HasEdge (goal_nodes_of copy) at e
        → HasEdge (graph_nodes_of nodes) (slice_index numbers at) (original_edge (slice_index numbers) e)
    has_original at e has =
        original_has (graph_nodes_of nodes) (goal_nodes_of copy) (slice_index numbers) is_copy at e has

    closed_at : (at : ℕ) (e : Edge I) → HasEdge (goal_nodes_of copy) at e
        → HasGoal (goal_nodes_of copy) e.target e.input
    closed_at at e has =
        goal_there e.target e.input (c.inside at e has)
        (graph.closed (slice_index numbers at) (original_edge (slice_index numbers) e)
        (c.reached at (edge_within at e has)) (has_original at e has))

    cycle_at : (at : ℕ) (e : Edge I) (rest : List (Edge I))
        → IsWalk (goal_nodes_of copy) at (e ∷ rest) at → walk_kind (e ∷ rest) ≡ kind
    cycle_at at e rest loop =
        sym (same_walk_kind (slice_index numbers) (e ∷ rest))
        ∙ graph.cycles (slice_index numbers at) (original_edge (slice_index numbers) e)
        (map (original_edge (slice_index numbers)) rest)
        (c.reached at (edge_within at e loop.0))
        (original_walk (graph_nodes_of nodes) (goal_nodes_of copy) (slice_index numbers) is_copy at at (e ∷ rest) loop)

    copy_is_valid : IsValid test kind scripts copy goal
    copy_is_valid = record {
      rooted = goal_there 0 goal first_within
          (subst (λ x. HasGoal (graph_nodes_of nodes) x goal) (sym first_is) graph.rooted);
      runs = run_at;
      closed = closed_at;
      cycles = cycle_at;
    }

  -- the copy of a definite result's graph
  result_is_valid : (verdict : theory.Verdict) (test : R → Bool) (kind : PathKind) → IsSort I says verdict test kind
      → verdict ≢ theory.Neither → (goal : I) (r : R) (node : NodeId) → node.0 ≡ root
      → HasGraph says nodes goal r (Some node) → verdict_of says r ≡ verdict → IsValid test kind scripts copy goal
  result_is_valid verdict test kind of_sort definite goal r node here has said =
      let g = has.definite (λ none. definite (sym said ∙ none)) in
      copy_is_valid verdict test kind of_sort goal (subst (λ x. IsNodeOf nodes x goal) here g.0)
      (subst (λ x. theory.IsClosedGraph (shapes_of says nodes) verdict x) here
      (subst (λ v. theory.IsClosedGraph (shapes_of says nodes) v node.0) said g.1))

  pub yes_is_valid : (goal : I) (r : R) (node : NodeId) → node.0 ≡ root → HasGraph says nodes goal r (Some node)
      → says.is_yes r ≡ true → IsValid says.is_yes Coinductive scripts copy goal
  yes_is_valid goal r node here has is = result_is_valid theory.Yes says.is_yes Coinductive (yes_sort says) (λ e. cc)
      goal r node here has (yes_verdict (says.is_yes r) (says.is_no r) is)

  pub no_is_valid : (goal : I) (r : R) (node : NodeId) → node.0 ≡ root → (says.is_yes r ≡ true → says.is_no r ≡ false)
      → HasGraph says nodes goal r (Some node) → says.is_no r ≡ true → IsValid says.is_no Inductive scripts copy goal
  no_is_valid goal r node here one has is = result_is_valid theory.No says.is_no Inductive (no_sort says) (λ e. cc) goal
      r node here has (no_verdict (says.is_yes r) (says.is_no r) one is)
