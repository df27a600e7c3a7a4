-- Goals that say maybe: each of them, whatever shows it, asks one of them by a step of forced ambiguity, as one that
-- asks itself alone. No closed walk of a graph has such a step, so no graph has such a goal: it is neither proved nor
-- refuted, and nothing is by it.
use Rattle.std.proofs.Common.{◌≡◌, ℕ, List, Contains, sym, ap₂}
use Rattle.question_lists.specs.Below.{ForcedAmbiguity, GraphNode, HasGoal, IsGraph, IsReached, PathKind}
use Rattle.question_lists.specs.Below.{Question, greater_kind}
use Rattle.question_lists.proofs.Inductive.{holds_along}

-- among the questions is one by a step of forced ambiguity, whose goal says maybe, too
pub record AsksOn {I : Type 0} (unknown : I → Type 0) (shown : List (Question I)) : Type 0 where
  pub question : Question I
  pub is_among : Contains shown question
  pub is_forced : question.kind ≡ ForcedAmbiguity
  pub still : unknown question.goal

module _ {I : Type 0} (rule : I → List (Question I) → Type 0) (kind : PathKind) (nodes : List (GraphNode I)) (root : ℕ)
    (goal : I) (graph : IsGraph rule kind nodes root goal)
    (apart : ForcedAmbiguity ≡ kind → ⊥) (unknown : I → Type 0)
    (asks_on : (asked : I) (shown : List (Question I)) → unknown asked → rule asked shown → AsksOn unknown shown) where
  -- no place that is reached has one of them
  pub never_reached : (at : ℕ) (asked : I) → IsReached nodes root at → HasGoal nodes at asked → unknown asked → ⊥
  never_reached =
      holds_along rule kind nodes root goal graph (λ k. k ≡ ForcedAmbiguity) (λ k l e f. ap₂ greater_kind e f)
      (λ e. apart (sym e)) (λ asked. unknown asked → ⊥)
      (λ at asked s fails is.
      let next = asks_on asked s.shown is s.by_rule in fails next.question next.is_among next.is_forced next.still)
