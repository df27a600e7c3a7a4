-- What a part of a graph shows, where its runs are right and its known nodes are shown.
use Rattle.std.proofs.Common.{◌≡◌, ◌∙◌, Bool, Err, false, IfOk, IsTrue, length, List, map, Ok, reverse, Result}
use Rattle.std.proofs.Common.{slice_get, Some, subst, sym, true}
use Rattle.std.proofs.lemmas.List.{length-map}
use Rattle.std.proofs.lemmas.Option.{slice_get-map}
use Rattle.search_context.proofs.Graphs.{mapped_some}
use Rattle.search_context.proofs.Rules.{KeepsRule}
use Rattle.graph_check.specs.Below.{AreClosed, Coinductive, CyclesHaveKind, goal_node_of, goal_nodes_of, GraphNode}
use Rattle.graph_check.specs.Below.{Inductive, Node, No, PathKind, Question, question_of, Reply, Request, Verdict}
use Rattle.graph_check.specs.Below.{Verdicts, Yes}
use Rattle.graph_check.specs.Parts.{AreKnown, AreRunsButKnown, AreShown, AreSorted}
use Rattle.graph_check.specs.Words.{has_sort}
use Rattle.graph_check.proofs.Joined.{all_shown}
use Rattle.graph_check.proofs.ValidGraphs.{IsKindOf}

module _ {I R : Type 0} (is_of_sort : R → Bool) (scripts : I → List (Reply R) → Request I R) (known : List Bool)
    (nodes : List (Node I R)) (runs : AreRunsButKnown is_of_sort scripts known nodes) where
  runs_show : (rule : I → List (Question I) → Type 0) → KeepsRule is_of_sort scripts rule
      → (at : _) (m : GraphNode I) → slice_get (goal_nodes_of nodes) at ≡ Some m → slice_get known at ≡ Some false
      → rule m.goal (map question_of m.edges)
  runs_show rule keeps at m is out =
      let n = mapped_some goal_node_of (slice_get nodes at) m (sym (slice_get-map goal_node_of nodes at) ∙ is) in
      let run = runs at n.0 n.1 out in
      let is_shown : rule n.0.input (map question_of n.0.edges.items) =
      subst (rule n.0.input) (sym run.edges)
      (keeps n.0.input (reverse n.0.replies.items) n.0.result run.ends run.sort) in
      subst (λ (x : GraphNode I). rule x.goal (map question_of x.edges)) n.2 is_shown

  part_shown : (rule : I → List (Question I) → Type 0) (kind : PathKind) → KeepsRule is_of_sort scripts rule
      → length known ≡ length nodes → AreClosed (goal_nodes_of nodes) → CyclesHaveKind kind (goal_nodes_of nodes)
      → AreKnown rule kind known (goal_nodes_of nodes) → AreShown rule kind (goal_nodes_of nodes)
  part_shown rule kind keeps same closed cycles are_known =
      all_shown rule kind (goal_nodes_of nodes) known are_known (same ∙ sym (length-map nodes goal_node_of)) closed
      cycles (runs_show rule keeps)

module _ {I R : Type 0} (says : Verdicts R) (scripts : I → List (Reply R) → Request I R) (known : List Bool)
    (nodes : List (Node I R)) (sort : Verdict) (kind : PathKind) (is_kind : IsKindOf sort kind)
    (same : length known ≡ length nodes) (closed : AreClosed (goal_nodes_of nodes))
    (cycles : CyclesHaveKind kind (goal_nodes_of nodes))
    (runs : AreRunsButKnown (has_sort says sort) scripts known nodes) where
  pub proofs_of_part : (proves : I → List (Question I) → Type 0) → KeepsRule says.is_yes scripts proves → sort ≡ Yes
      → AreKnown proves Coinductive known (goal_nodes_of nodes) → AreShown proves Coinductive (goal_nodes_of nodes)
  proofs_of_part proves keeps is are_known =
      let coinductive : kind ≡ Coinductive = subst (λ s. IsKindOf s kind) is is_kind in
      part_shown says.is_yes scripts known nodes
      (subst (λ s. AreRunsButKnown (has_sort says s) scripts known nodes) is runs) proves Coinductive keeps same closed
      (subst (λ k. CyclesHaveKind k (goal_nodes_of nodes)) coinductive cycles) are_known

  pub refutations_of_part : (refutes : I → List (Question I) → Type 0) → KeepsRule says.is_no scripts refutes
      → sort ≡ No → AreKnown refutes Inductive known (goal_nodes_of nodes)
      → AreShown refutes Inductive (goal_nodes_of nodes)
  refutations_of_part refutes keeps is are_known =
      let inductive : kind ≡ Inductive = subst (λ s. IsKindOf s kind) is is_kind in
      part_shown says.is_no scripts known nodes
      (subst (λ s. AreRunsButKnown (has_sort says s) scripts known nodes) is runs) refutes Inductive keeps same closed
      (subst (λ k. CyclesHaveKind k (goal_nodes_of nodes)) inductive cycles) are_known

  pub sorted_part : AreSorted (has_sort says sort) known nodes
  sorted_part at n there out = (runs at n there out).sort

-- what is said of an accepted part, by what came of it
pub if_accepted : {P Q : Type 0} {E : Type 0} (r : Result Bool E) → IfOk r (λ b. IsTrue b → P) → (P → Q)
    → r ≡ Ok true → Q
if_accepted (Ok b) runs then e = let yes : b ≡ true = cc in then (runs yes)
if_accepted (Err e') runs then e = absurd cc
