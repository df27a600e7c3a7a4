-- What a valid graph shows: where the questions of each run's answers keep a rule, it is a graph of
-- its goal by the rule.
use Rattle.std.proofs.Common.{◌≡◌, ◌↔◌, Bool, IsTrue, List, map, slice_get, get_or, reverse, sym, ◌∙◌, subst}
use Rattle.std.proofs.lemmas.Option.{slice_get-map, slice_get-get_or, slice_get_within, get_or_from_slice_get}
use Rattle.search_context.proofs.Graphs.{mapped_some}
use Rattle.search_context.proofs.Rules.{KeepsRule}
use Rattle.graph_check.specs.Below.{PathKind, Inductive, Coinductive, Node, Reply, Request, Verdict, Yes, No, Neither}
use Rattle.graph_check.specs.Below.{Question, GraphNode, question_of, HasGoal, IsGraph, IsProofGraph, IsRefutationGraph}
use Rattle.graph_check.specs.Below.{AreClosed, CyclesHaveKind, IsRunOfSort, IsValid, IsValidFor, goal_node_of}
use Rattle.graph_check.specs.Below.{goal_nodes_of, Verdicts}
use Rattle.graph_check.specs.Words.{has_sort, AreRunsOfSort}

module _ {I R : Type 0} (is_of_sort : R → Bool)
    (scripts : I → List (Reply R) → Request I R) (nodes : List (Node I R)) where
  -- a valid graph is a graph of its goal
  pub valid_is_graph : (kind : PathKind) (rule : I → List (Question I) → Type 0) (goal : I)
      → KeepsRule is_of_sort scripts rule → IsValid is_of_sort kind scripts nodes goal
      → IsGraph rule kind (goal_nodes_of nodes) 0 goal
  valid_is_graph kind rule goal keeps valid = record {
    rooted = valid.rooted;
    closed = λ at e reached has. valid.closed at e has;
    is_shown = λ at m reached is.
        let n = mapped_some goal_node_of (slice_get nodes at) m (sym (slice_get-map goal_node_of nodes at) ∙ is) in
        let run = valid.runs at n.0 n.1 in
        let is_shown : rule n.0.input (map question_of n.0.edges.items) =
        subst (rule n.0.input) (sym run.edges)
        (keeps n.0.input (reverse n.0.replies.items) n.0.result run.ends run.sort) in
        subst (λ (x : GraphNode I). rule x.goal (map question_of x.edges)) n.2 is_shown;
    cycles = λ at e rest reached walk. valid.cycles at e rest walk;
  }

  -- the parts of a valid graph that are tested one after another
  pub valid_from_parts : (kind : PathKind) (goal : I) → HasGoal (goal_nodes_of nodes) 0 goal
      → AreClosed (goal_nodes_of nodes) → CyclesHaveKind kind (goal_nodes_of nodes)
      → AreRunsOfSort is_of_sort scripts nodes → IsValid is_of_sort kind scripts nodes goal
  valid_from_parts kind goal rooted closed cycles runs = record {
    rooted = rooted;
    runs = λ at n is.
        let at_n = get_or_from_slice_get nodes at n n is in
        subst (λ (m : Node I R). IsRunOfSort is_of_sort (scripts m.input) m) at_n
        (runs at n (slice_get_within nodes at n is));
    closed = closed;
    cycles = cycles;
  }

  pub runs_of_valid : (kind : PathKind) (goal : I) → IsValid is_of_sort kind scripts nodes goal
      → AreRunsOfSort is_of_sort scripts nodes
  runs_of_valid kind goal valid = λ k d lt. valid.runs k (get_or nodes k d) (slice_get-get_or nodes k d lt)

-- the kind that cycles have for a verdict
abbrev pub IsKindOf : Verdict → PathKind → Type 0
IsKindOf Yes kind = kind ≡ Coinductive
IsKindOf No kind = kind ≡ Inductive
IsKindOf Neither kind = ⊥

module _ {I R : Type 0} (says : Verdicts R)
    (scripts : I → List (Reply R) → Request I R) (goal : I) (kind : PathKind) where
  -- validity for a verdict is validity by its test and its kind
  pub valid_by_sort : (sort : Verdict) (nodes : List (Node I R)) → IsKindOf sort kind
      → IsValidFor says sort scripts nodes goal ↔ IsValid (has_sort says sort) kind scripts nodes goal
  valid_by_sort Yes nodes e = rw e (λ v. v, λ v. v)
  valid_by_sort No nodes e = rw e (λ v. v, λ v. v)
  valid_by_sort Neither nodes e = absurd e

  -- where the goal and the edges are right, the runs decide
  pub runs_decide : (sort : Verdict) (nodes : List (Node I R)) → IsKindOf sort kind
      → HasGoal (goal_nodes_of nodes) 0 goal → AreClosed (goal_nodes_of nodes)
      → CyclesHaveKind kind (goal_nodes_of nodes)
      → (accepted : Bool) → IsTrue accepted ↔ AreRunsOfSort (has_sort says sort) scripts nodes → IsTrue accepted
      ↔ IsValidFor says sort scripts nodes goal
  runs_decide sort nodes e rooted closed cycles accepted runs = (
    λ h. (valid_by_sort sort nodes e).1
        (valid_from_parts (has_sort says sort) scripts nodes kind goal rooted closed cycles (runs.0 h)),
    λ v. runs.1 (runs_of_valid (has_sort says sort) scripts nodes kind goal ((valid_by_sort sort nodes e).0 v)),
  )

module _ {I R : Type 0} (says : Verdicts R) (scripts : I → List (Reply R) → Request I R) (goal : I)
    (sort : Verdict) (nodes : List (Node I R)) where
  -- a valid graph for yes is a proof graph
  pub valid_is_proof : (proves : I → List (Question I) → Type 0) → KeepsRule says.is_yes scripts proves
      → IsValidFor says sort scripts nodes goal → sort ≡ Yes → IsProofGraph proves (goal_nodes_of nodes) 0 goal
  valid_is_proof proves keeps v e = valid_is_graph says.is_yes scripts nodes Coinductive proves goal keeps
      (subst (λ s. IsValidFor says s scripts nodes goal) e v)

  -- a valid graph for no is a refutation graph
  pub valid_is_refutation : (refutes : I → List (Question I) → Type 0) → KeepsRule says.is_no scripts refutes
      → IsValidFor says sort scripts nodes goal → sort ≡ No → IsRefutationGraph refutes (goal_nodes_of nodes) 0 goal
  valid_is_refutation refutes keeps v e = valid_is_graph says.is_no scripts nodes Inductive refutes goal keeps
      (subst (λ s. IsValidFor says s scripts nodes goal) e v)
