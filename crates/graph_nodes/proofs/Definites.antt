-- Definite results keep their graphs while the list of nodes grows, and show what they say.
use Rattle.std.proofs.Common.{ap, Bool, false, if◌then◌else◌, inl, inr, List, None, Option, option_map, refl, Some}
use Rattle.std.proofs.Common.{subst, sym, true, zero, ℕ, ◌∙◌, ◌≡◌, ◌≢◌}
use Rattle.std.specs.Option.{IfSome, IsSomeAnd}
use Rattle.open_graphs.specs.Graph as theory
use Rattle.open_graphs.proofs.Closed.{growth_keeps_graph}
use Rattle.open_graphs.proofs.States.{verdict_cases}
use Rattle.open_graphs.proofs.Verdicts.{edges_of}
use Rattle.graph_nodes.specs.Below.{NodeId, Request, Reply, IsProofGraph, IsRefutationGraph, Question, verdict_of}
use Rattle.graph_nodes.specs.Below.{IsDefinite, Verdicts, PathKind, Coinductive, Inductive}
use Rattle.graph_nodes.specs.Words.{CacheNode, IsNodeOf, KeepsGoals, KeepsFinished, AreRuns, graph_nodes_of, shapes_of}
use Rattle.graph_nodes.specs.Words.{HasNode, HasGraph, IsWhole}
use Rattle.graph_nodes.proofs.Finished.{finished_stays, Grown-finished}
use Rattle.search_context.specs.Graph.{IsGraph}
use Rattle.search_context.proofs.Rules.{KeepsRule}
use Rattle.graph_nodes.proofs.Bridge.{IsSort, yes_sort, no_sort, graph_by_rule, whole_from_graph}

pub IsSomeAnd-weaker : {A : Type 0} (P Q : A → Type 0) → ((x : A) → P x → Q x)
    → (o : Option A) → IsSomeAnd o P → IsSomeAnd o Q
IsSomeAnd-weaker P Q more None h = absurd h
IsSomeAnd-weaker P Q more (Some x) h = more x h

module _ {I R : Type 0} (says : Verdicts R) where
  -- a result has its node still where each node that it may have keeps the goal and the property
  pub HasNode-kept : (old new : List (CacheNode I R)) (was is : theory.Verdict → ℕ → Type 0) (goal : I) (r : R)
      (node : Option NodeId) → (IsDefinite says r → (n : ℕ) → IsNodeOf old n goal → was (verdict_of says r) n
      → IsNodeOf new n goal × is (verdict_of says r) n)
      → HasNode says old was goal r node → HasNode says new is goal r node
  HasNode-kept old new was is goal r node kept h = record {
    definite = λ definite.
        IsSomeAnd-weaker (λ n. IsNodeOf old n.0 goal × was (verdict_of says r) n.0)
        (λ n. IsNodeOf new n.0 goal × is (verdict_of says r) n.0)
        (λ n both. kept definite n.0 both.0 both.1) node (h.definite definite);
    neither = h.neither;
  }

  pub HasGraph-kept : (old new : List (CacheNode I R)) → KeepsGoals old new
      → theory.Grown (shapes_of says old) (shapes_of says new) → (goal : I) (r : R) (node : Option NodeId)
      → HasGraph says old goal r node → HasGraph says new goal r node
  HasGraph-kept old new goals grown goal r node =
      HasNode-kept old new (theory.IsClosedGraph (shapes_of says old))
      (theory.IsClosedGraph (shapes_of says new)) goal r node
      (λ definite n of_goal graph. (
        goals n goal of_goal,
        growth_keeps_graph (shapes_of says old) (shapes_of says new) (verdict_of says r) n grown graph,
      ))

  -- all that a graph reaches is finished, so it needs no other node
  pub HasGraph-finished : (old new : List (CacheNode I R)) → KeepsFinished old new
      → (goal : I) (r : R) (node : Option NodeId) → HasGraph says old goal r node → HasGraph says new goal r node
  HasGraph-finished old new kept goal r node =
      HasNode-kept old new (theory.IsClosedGraph (shapes_of says old))
      (theory.IsClosedGraph (shapes_of says new)) goal r node
      (λ definite n of_goal graph.
      let root = edges_of (shapes_of says old) (verdict_of says r) n (graph.finished n zero theory.stay) in (
        ap (option_map (λ m. m.goal)) (finished_stays says old new kept n (verdict_of says r) root.0 root.1) ∙ of_goal,
        growth_keeps_graph (shapes_of says old) (shapes_of says new) (verdict_of says r) n
            (Grown-finished says old new kept) graph,
      ))

pub yes_verdict : (y n : Bool) → y ≡ true
    → (if y then theory.Yes else if n then theory.No else theory.Neither) ≡ theory.Yes
yes_verdict true n e = refl
yes_verdict false n e = absurd cc

pub no_verdict : (y n : Bool) → (y ≡ true → n ≡ false) → n ≡ true
    → (if y then theory.Yes else if n then theory.No else theory.Neither) ≡ theory.No
no_verdict true n one e = let other : n ≡ false = one refl in absurd cc
no_verdict false true one e = refl
no_verdict false false one e = absurd cc

module _ {I R : Type 0} (says : Verdicts R) (scripts : I → List (Reply R) → Request I R) (nodes : List (CacheNode I R))
    (runs : AreRuns says scripts nodes) (goal : I) (r : R) (node : Option NodeId)
    (has : HasGraph says nodes goal r node) where
  -- a definite result shows what it says
  is_shown : (verdict : theory.Verdict) (test : R → Bool) (kind : PathKind) → IsSort I says verdict test kind
      → verdict ≢ theory.Neither → (rule : I → List (Question I) → Type 0) → KeepsRule test scripts rule
      → verdict_of says r ≡ verdict → IsSomeAnd node (λ n. IsGraph rule kind (graph_nodes_of nodes) n.0 goal)
  is_shown verdict test kind sort definite rule law said =
      IsSomeAnd-weaker
      (λ n. IsNodeOf nodes n.0 goal × theory.IsClosedGraph (shapes_of says nodes) (verdict_of says r) n.0)
      (λ n. IsGraph rule kind (graph_nodes_of nodes) n.0 goal)
      (λ n g. graph_by_rule says scripts nodes runs n.0 goal g.0 verdict test kind sort rule law
      (subst (λ v. theory.IsClosedGraph (shapes_of says nodes) v n.0) said g.1))
      node (has.definite (λ none. definite (sym said ∙ none)))

  pub yes_is_shown : (proves : I → List (Question I) → Type 0) → KeepsRule says.is_yes scripts proves
      → says.is_yes r ≡ true → IsSomeAnd node (λ n. IsProofGraph proves (graph_nodes_of nodes) n.0 goal)
  yes_is_shown proves law is = is_shown theory.Yes says.is_yes Coinductive (yes_sort says) (λ e. cc) proves law
      (yes_verdict (says.is_yes r) (says.is_no r) is)

  pub no_is_shown : (refutes : I → List (Question I) → Type 0) → KeepsRule says.is_no scripts refutes
      → (says.is_yes r ≡ true → says.is_no r ≡ false) → says.is_no r ≡ true
      → IsSomeAnd node (λ n. IsRefutationGraph refutes (graph_nodes_of nodes) n.0 goal)
  no_is_shown refutes law one is = is_shown theory.No says.is_no Inductive (no_sort says) (λ e. cc) refutes law
      (no_verdict (says.is_yes r) (says.is_no r) one is)

-- all that the node of a result reaches is finished
pub definite_is_whole : {I R : Type 0} (says : Verdicts R) (nodes : List (CacheNode I R)) (goal : I) (r : R)
    (node : Option NodeId) → HasGraph says nodes goal r node → IfSome node (λ n. IsWhole nodes n.0)
definite_is_whole says nodes goal r None has = tt
definite_is_whole says nodes goal r (Some n) has = elim (verdict_cases (verdict_of says r) theory.Neither) [
  | inl neither ↦ let none : Some n ≡ None = has.neither neither in absurd cc
  | inr is_definite ↦ whole_from_graph says nodes (verdict_of says r) n.0 (has.definite is_definite).1
]
