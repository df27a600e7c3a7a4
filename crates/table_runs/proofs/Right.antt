-- What an answer is worth by the rules alone, by what the search promises, and by what the checker accepts.
use Rattle.std.proofs.Common.{◌≡◌, ◌↔◌, Bool, true, false, List, None, Some, Option, Ok, Err, Result, IfOk}
use Rattle.std.proofs.Common.{IsTrue, refl}
use Rattle.std.proofs.lemmas.Bool.{false≢true}
use Rattle.search_context.specs.declared.context.Answer.{Answer}
use Rattle.search_context.specs.declared.context.Verdict.TheVariants as verdict
use Rattle.graph_nodes.specs.Nodes.{graph_nodes_of}
use Rattle.table_runs.specs.Below.{Cache, CxOf, Goal, HasProof, HasRefutation, IsProofGraph, IsProved}
use Rattle.table_runs.specs.Below.{IsRefutationGraph, IsRefuted, IsValidFor, Node, NodeId, NoMemory, Outcome, Reply}
use Rattle.table_runs.specs.Below.{Request, Verdict, goal_nodes_of, verdicts}
use Rattle.table_runs.specs.Right.{IsRightOutcome, Proved, Refuted, SomeGraphShows}

-- ---- by the search

module _ {C A T : Type 0} (X : CxOf C Goal Outcome A T) (cache : Cache C Goal Outcome T) (goal : Goal) where
  has_proof : (node : Option NodeId) → IsProved X cache goal node → HasProof (X.proves cache.cx) goal
  has_proof None proved = absurd proved.graph
  has_proof (Some root) proved = (graph_nodes_of cache.nodes, root.0, proved.graph)

  has_refutation : (node : Option NodeId) → IsRefuted X cache goal node → HasRefutation (X.refutes cache.cx) goal
  has_refutation None refuted = absurd refuted.graph
  has_refutation (Some root) refuted = (graph_nodes_of cache.nodes, root.0, refuted.graph)

  pub right_outcome : (answer : Answer Outcome) → (X.is_yes answer.result ≡ true → IsProved X cache goal answer.node) →
      (X.is_no answer.result ≡ true → IsRefuted X cache goal answer.node) → IsRightOutcome X cache.cx goal answer.result
  right_outcome answer when_yes when_no = record {
    proof = λ is. has_proof answer.node (when_yes is);
    never_refuted = λ is refutation. (when_yes is).never_refuted refutation.0 refutation.1 refutation.2;
    refutation = λ is. has_refutation answer.node (when_no is);
    never_proved = λ is proof. (when_no is).never_proved proof.0 proof.1 proof.2;
  }

-- ---- by the checker

module _ {C A T : Type 0} (X : CxOf C Goal Outcome A T) (scripts : Goal → List (Reply Outcome) → Request Goal Outcome)
    (cx : C) (goal : Goal) (outcome : Outcome) (nodes : List (Node Goal Outcome)) where
  -- what was accepted shows the outcome
  pub accepted_shows : (sort : Verdict) → ((sort ≡ verdict.Yes) ↔ IsTrue (X.is_yes outcome)) →
      ((sort ≡ verdict.No) ↔ IsTrue (X.is_no outcome)) → (checked : Result Bool NoMemory) →
      IfOk checked (λ accepted. IsTrue accepted ↔ IsValidFor (verdicts X) sort scripts nodes goal) →
      (checked ≡ Ok true → sort ≡ verdict.Yes → IsProofGraph (X.proves cx) (goal_nodes_of nodes) 0 goal) →
      (checked ≡ Ok true → sort ≡ verdict.No → IsRefutationGraph (X.refutes cx) (goal_nodes_of nodes) 0 goal) →
      IfOk checked (λ accepted. IsTrue accepted → SomeGraphShows X cx goal outcome)
  accepted_shows verdict.Yes as_yes as_no (Ok true) exact proof refutation =
      λ is. Proved (as_yes.0 refl) (goal_nodes_of nodes, 0, proof refl refl)
  accepted_shows verdict.No as_yes as_no (Ok true) exact proof refutation =
      λ is. Refuted (as_no.0 refl) (goal_nodes_of nodes, 0, refutation refl refl)
  accepted_shows verdict.Neither as_yes as_no (Ok true) exact proof refutation = λ is. absurd (exact.0 is)
  accepted_shows sort as_yes as_no (Ok false) exact proof refutation = λ is. absurd (false≢true is)
  accepted_shows sort as_yes as_no (Err refused) exact proof refutation = tt
