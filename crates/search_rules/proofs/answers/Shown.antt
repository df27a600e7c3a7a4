-- What a definite answer shows: it has its graph, and its goal has none of the other sort.
use Rattle.std.proofs.Common.{◌≡◌, ℕ, Bool, true, false, if◌then◌else◌, List, Option, None, Some, refl}
use Rattle.std.specs.Option.{IsSomeAnd}
use Rattle.open_graphs.specs.Graph as theory
use Rattle.search_rules.specs.Below.{NodeId, Question, Overlap, GraphNode, IsProofGraph, IsRefutationGraph, Cache}
use Rattle.search_rules.specs.Below.{AreRuns, graph_nodes_of, HasGraph, DelegateOf, CxOf, verdicts}
use Rattle.search_context.proofs.Rules.{KeepsRule}
use Rattle.graph_nodes.proofs.Definites.{yes_is_shown, no_is_shown}
use Rattle.search_context.proofs.Graphs.{never_both}
use Rattle.search_rules.specs.Words.{IsProved, IsRefuted}

module _ {D C V P F I R A T : Type 0} (G : DelegateOf D C V P F I R A T) (X : CxOf C I R A T) (cache : Cache C I R T)
    (runs_are : AreRuns (verdicts X) (G.script cache.cx) cache.nodes)
    (clash : (goal : I) (held failed : List (Question I)) → X.proves cache.cx goal held
    → X.refutes cache.cx goal failed → Overlap held failed)
    (goal : I) (r : R) (target : Option NodeId) (has : HasGraph (verdicts X) cache.nodes goal r target) where
  never_refuted_at : (o : Option NodeId)
      → IsSomeAnd o (λ n. IsProofGraph (X.proves cache.cx) (graph_nodes_of cache.nodes) n.0 goal)
      → (others : List (GraphNode I)) (top : ℕ) → IsRefutationGraph (X.refutes cache.cx) others top goal → ⊥
  never_refuted_at None h others top refutation = absurd h
  never_refuted_at (Some n) h others top refutation = never_both (X.proves cache.cx) (X.refutes cache.cx) clash
      (graph_nodes_of cache.nodes) others n.0 top goal h refutation

  never_proved_at : (o : Option NodeId)
      → IsSomeAnd o (λ n. IsRefutationGraph (X.refutes cache.cx) (graph_nodes_of cache.nodes) n.0 goal)
      → (others : List (GraphNode I)) (top : ℕ) → IsProofGraph (X.proves cache.cx) others top goal → ⊥
  never_proved_at None h others top proof = absurd h
  never_proved_at (Some n) h others top proof =
      never_both (X.proves cache.cx) (X.refutes cache.cx) clash others (graph_nodes_of cache.nodes) top n.0 goal proof h

  pub yes_is_proved : KeepsRule X.is_yes (G.script cache.cx) (X.proves cache.cx)
      → X.is_yes r ≡ true → IsProved X cache goal target
  yes_is_proved law is =
      let graph =
      yes_is_shown (verdicts X) (G.script cache.cx) cache.nodes runs_are goal r target has (X.proves cache.cx) law is in
      record { graph = graph; never_refuted = never_refuted_at target graph }

  pub no_is_refuted : KeepsRule X.is_no (G.script cache.cx) (X.refutes cache.cx)
      → (X.is_yes r ≡ true → X.is_no r ≡ false) → X.is_no r ≡ true → IsRefuted X cache goal target
  no_is_refuted law one is =
      let graph = no_is_shown (verdicts X) (G.script cache.cx) cache.nodes runs_are goal r target
      has (X.refutes cache.cx) law one is in
      record { graph = graph; never_proved = never_proved_at target graph }

  neither_at : (y n : Bool) → y ≡ false → n ≡ false
      → (if y then theory.Yes else if n then theory.No else theory.Neither) ≡ theory.Neither
  neither_at true n not_yes not_no = absurd cc
  neither_at false true not_yes not_no = absurd cc
  neither_at false false not_yes not_no = refl

  pub neither_is_none : X.is_yes r ≡ false → X.is_no r ≡ false → target ≡ None
  neither_is_none not_yes not_no = has.neither (neither_at (X.is_yes r) (X.is_no r) not_yes not_no)
