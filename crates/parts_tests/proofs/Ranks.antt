-- What a result of a goal that asks itself needs to be stored, where it is neither yes nor no and met overflow.
use Rattle.std.proofs.Common.{◌≡◌, ℕ, zero, suc, List, [], ◌∷◌, None, refl}
use Rattle.open_graphs.specs.Graph as theory
use Rattle.parts_tests.specs.Below.{Begin, PathKind, CacheNode, HasGraph, IsRanked, HasNoRank, verdict_of}
use Rattle.parts_tests.specs.Below.{Outcome, outcome_verdicts}
use Rattle.test_delegates.specs.Words.{loop_script}

unranked : (n : ℕ) (goal : PathKind) → IsRanked loop_script n goal → ⊥
unranked zero goal h = h (Begin ∷ []) goal goal (tt, tt) refl
unranked (suc n) goal h = unranked n goal (h (Begin ∷ []) goal goal (tt, tt) refl)

-- a goal that asks itself has no rank
pub has_no_rank : (goal : PathKind) → HasNoRank loop_script goal
has_no_rank goal n h = unranked n goal h.is_ranked

-- a result that is neither yes nor no needs no node
pub needs_no_graph : (nodes : List (CacheNode PathKind Outcome)) (goal : PathKind) (r : Outcome)
    → verdict_of outcome_verdicts r ≡ theory.Neither → HasGraph outcome_verdicts nodes goal r None
needs_no_graph nodes goal r neither = record { definite = λ is. absurd (is neither); neither = λ _. refl }
