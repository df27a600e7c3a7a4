-- Where no question is given, a graph over given questions is a graph. So each goal of a closed list has one of the
-- two graphs, and a result that is yes with the one and no with the other says which.
use Rattle.std.proofs.Common.{◌≡◌, ℕ, Bool, true, false, inl, inr, List, map, Contains, Option, None}
use Rattle.search_context.proofs.Graphs.{never_both}
use Rattle.determined.proofs.Determined.{has_one_over_given}
use Rattle.determined.proofs.Laws.{AreLawful}
use Rattle.determined.specs.Below.{Coinductive, GraphNode, Inductive, IsDecisive, IsGraph, IsWithin, PathKind, Question}
use Rattle.determined.specs.Below.{Reply, Request, Verdicts, question_of}
use Rattle.determined.specs.Closed.{ExactlyOne, HasProof, HasRefutation, IsClosed, IsExact}
use Rattle.determined.specs.Given.{HasProofOver, HasRefutationOver, IsClosedButGiven, IsShownOver}

-- no question is given
abbrev pub none_given : {I : Type 0} → Question I → Option Bool
none_given q = None

pub closed_but_none : {I R : Type 0} (scripts : I → List (Reply R) → Request I R) (goals : List I) (most : ℕ)
    → IsClosed scripts goals most → IsClosedButGiven none_given scripts goals most
closed_but_none scripts goals most closed = record {
  stays = λ goal has replies kind asked fits is follows. closed.stays goal has replies kind asked fits is;
  is_orderly = closed.is_orderly;
  is_done = closed.is_done;
}

-- a graph by a rule is one by a rule that asks for less
graph_by : {I : Type 0} (rule weaker : I → List (Question I) → Type 0) (kind : PathKind)
    (nodes : List (GraphNode I)) (root : ℕ) (goal : I) →
    ((g : I) (questions : List (Question I)) → rule g questions → weaker g questions) →
    IsGraph rule kind nodes root goal → IsGraph weaker kind nodes root goal
graph_by rule weaker kind nodes root goal weaken graph = record {
  rooted = graph.rooted;
  closed = graph.closed;
  is_shown = λ at n reached is. weaken n.goal (map question_of n.edges) (graph.is_shown at n reached is);
  cycles = graph.cycles;
}

module _ {I : Type 0} (rule : I → List (Question I) → Type 0)
    (more : (goal : I) (some all : List (Question I)) → IsWithin some all → rule goal some → rule goal all) where
  shown_alone : (given : Bool) (goal : I) (questions : List (Question I))
      → IsShownOver none_given given rule goal questions → rule goal questions
  shown_alone given goal questions s =
      more goal s.shown questions (λ q has. elim (s.are_covered q has) [ inl h ↦ h | inr e ↦ absurd cc ]) s.by_rule

  pub proof_over_none : (goal : I) → HasProofOver none_given rule goal → HasProof rule goal
  proof_over_none goal (nodes, root, graph) = (
    nodes,
    root,
    graph_by (IsShownOver none_given true rule) rule Coinductive nodes root goal (shown_alone true) graph,
  )

  pub refutation_over_none : (goal : I) → HasRefutationOver none_given rule goal → HasRefutation rule goal
  refutation_over_none goal (nodes, root, graph) = (
    nodes,
    root,
    graph_by (IsShownOver none_given false rule) rule Inductive nodes root goal (shown_alone false) graph,
  )

module _ {I R : Type 0} (says : Verdicts R) (scripts : I → List (Reply R) → Request I R)
    (cycle_result : PathKind → I → R) (proves refutes : I → List (Question I) → Type 0)
    (lawful : AreLawful says scripts cycle_result proves refutes) (decisive : IsDecisive says scripts)
    (goals : List I) (most : ℕ) (closed : IsClosed scripts goals most) (goal : I) (has : Contains goals goal) where
  not_both : HasProof proves goal → HasRefutation refutes goal → ⊥
  not_both (nodes, root, proof) (others, top, refutation) =
      never_both proves refutes lawful.clash nodes others root top goal proof refutation

  pub has_one : ExactlyOne (HasProof proves goal) (HasRefutation refutes goal)
  has_one = (
    elim (has_one_over_given says scripts cycle_result proves refutes lawful decisive none_given goals most
        (closed_but_none scripts goals most closed) goal has).0 [
          | inl proof ↦ inl (proof_over_none proves lawful.proves_more goal proof)
          | inr refutation ↦ inr (refutation_over_none refutes lawful.refutes_more goal refutation)
        ],
    not_both,
  )

  module _ (r : R) (proved : HasProof proves goal → says.is_yes r ≡ true)
      (refuted : HasRefutation refutes goal → says.is_no r ≡ true) where
    yes_has_proof : says.is_yes r ≡ true → HasProof proves goal
    yes_has_proof is = elim has_one.0 [
      | inl proof ↦ proof
      | inr refutation ↦ let a = lawful.one_sort r is in let b = refuted refutation in absurd cc
    ]

    no_has_refutation : says.is_no r ≡ true → HasRefutation refutes goal
    no_has_refutation is = elim has_one.0 [
      | inl proof ↦ let a = lawful.one_sort r (proved proof) in absurd cc
      | inr refutation ↦ refutation
    ]

    pub answer_is_exact : IsExact says proves refutes goal r
    answer_is_exact = record { yes_exactly = (yes_has_proof, proved); no_exactly = (no_has_refutation, refuted) }
