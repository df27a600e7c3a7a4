-- Goals that hold as long as others of them do. A closed walk of a refutation graph is inductive; so if each of these
-- goals, where it is refuted, has a coinductive question to another one of them among those that failed, then none of
-- them has such a graph.
use Rattle.std.proofs.Common.{◌≡◌, ℕ, List, [], Contains, refl}
use Rattle.question_lists.specs.Below.{Coinductive, GraphNode, Inductive, IsRefutationGraph, Question}
use Rattle.question_lists.specs.Derivations.{IsNotInductive}
use Rattle.question_lists.proofs.Inductive.{holds_along}
use Rattle.question_lists.proofs.Walks.{both_not_inductive, is_not_inductive}

-- a coinductive question among those that failed, whose goal holds all the same
pub record HoldsAllTheSame {I : Type 0} (holds : I → Type 0) (failed : List (Question I)) : Type 0 where
  pub question : Question I
  pub has_failed : Contains failed question
  pub is_coinductive : question.kind ≡ Coinductive
  pub still : holds question.goal

module _ {I : Type 0} (rule : I → List (Question I) → Type 0) (nodes : List (GraphNode I)) (root : ℕ) (goal : I)
    (refutation : IsRefutationGraph rule nodes root goal)
    (holds : I → Type 0) (goes_on : (asked : I) (failed : List (Question I)) → holds asked → rule asked failed
    → HoldsAllTheSame holds failed) (here : holds goal) where
  -- none of them is refuted
  pub never_refuted : ⊥
  never_refuted =
      holds_along rule Inductive nodes root goal refutation IsNotInductive both_not_inductive
      (λ n. n refl) (λ asked. holds asked → ⊥)
      (λ at asked s fails still. let next = goes_on asked s.shown still s.by_rule in
      fails next.question next.has_failed (is_not_inductive next.question.kind next.is_coinductive) next.still)
      root goal ([], refl) refutation.rooted here
