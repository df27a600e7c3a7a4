-- The premises can be met: a goal that asks itself, by a kind whose cycles are yes or no, and has its answer as its
-- result, is a closed list of one goal, and its script is decisive.
use Rattle.std.proofs.Common.{◌≡◌, ◌≤◌, List, [], ◌∷◌, length, Contains, Some, None, refl, subst, arith}
use Rattle.determined.specs.Below.{AreDecided, Answer, Begin, Done, Evaluate, IsDecidedKind, IsDecisive, IsDefinite}
use Rattle.determined.specs.Below.{IsFitting, Noted, PathKind, Reply, Request, Verdicts, fault_after, request_after}
use Rattle.determined.specs.Closed.{IsClosed}

module _ {I R : Type 0} (kind : PathKind) where
  abbrev asks_itself : I → List (Reply R) → Request I R
  asks_itself goal [] = Evaluate kind goal
  asks_itself goal (Begin ∷ earlier) = Evaluate kind goal
  asks_itself goal (Answer r ∷ earlier) = Done r
  asks_itself goal (Noted ∷ earlier) = Evaluate kind goal

  -- a run is nothing, a begin, or a begin and an answer
  at_most : (goal : I) (replies : List (Reply R)) → IsFitting (asks_itself goal) replies → length replies ≤ 2
  at_most goal [] fits = omega arith
  at_most goal (x ∷ []) fits = omega arith
  at_most goal (x ∷ y ∷ []) fits = omega arith
  at_most goal (x ∷ Begin ∷ Begin ∷ rest) fits = absurd fits.1.0
  at_most goal (x ∷ Begin ∷ Answer r ∷ rest) fits = absurd fits.1.0
  at_most goal (x ∷ Begin ∷ Noted ∷ rest) fits = absurd fits.1.0
  at_most goal (Begin ∷ Answer r ∷ z ∷ rest) fits = absurd fits.0
  at_most goal (Answer s ∷ Answer r ∷ z ∷ rest) fits = absurd fits.0
  at_most goal (Noted ∷ Answer r ∷ z ∷ rest) fits = absurd fits.0
  at_most goal (x ∷ Noted ∷ Begin ∷ rest) fits = absurd fits.1.0
  at_most goal (x ∷ Noted ∷ Answer r ∷ rest) fits = absurd fits.1.0
  at_most goal (x ∷ Noted ∷ Noted ∷ rest) fits = absurd fits.1.0

  asks_goal : (goal asked : I) (k : PathKind) (replies : List (Reply R))
      → request_after (asks_itself goal) replies ≡ Some (Evaluate k asked) → (goal ≡ asked) × (kind ≡ k)
  asks_goal goal asked k [] is = absurd cc
  asks_goal goal asked k (Begin ∷ earlier) is = (cc, cc)
  asks_goal goal asked k (Answer r ∷ earlier) is = absurd cc
  asks_goal goal asked k (Noted ∷ earlier) is = (cc, cc)

  orderly : (goal : I) (replies : List (Reply R)) → fault_after (asks_itself goal) replies ≡ None
  orderly goal [] = refl
  orderly goal (Begin ∷ earlier) = refl
  orderly goal (Answer r ∷ earlier) = refl
  orderly goal (Noted ∷ earlier) = refl

  loop_is_closed : (goal : I) → IsClosed asks_itself (goal ∷ []) 2
  loop_is_closed goal = record {
    stays = λ g has replies k asked fits is. subst (Contains (goal ∷ [])) (asks_goal g asked k replies is).0 has;
    is_orderly = λ g has replies fits. orderly g replies;
    is_done = λ g has replies fits. at_most g replies fits;
  }

  module _ (says : Verdicts R) (decided : IsDecidedKind kind) where
    ends : (goal : I) (replies : List (Reply R)) (r : R) → AreDecided says replies
        → request_after (asks_itself goal) replies ≡ Some (Done r) → IsDefinite says r
    ends goal [] r all is = absurd cc
    ends goal (Begin ∷ earlier) r all is = absurd cc
    ends goal (Answer s ∷ earlier) r all is = let e : s ≡ r = cc in subst (IsDefinite says) e all.0
    ends goal (Noted ∷ earlier) r all is = absurd cc

    loop_is_decisive : IsDecisive says asks_itself
    loop_is_decisive = record {
      asks = λ goal asked replies k fits is. subst IsDecidedKind (asks_goal goal asked k replies is).1 decided;
      ends = λ goal replies r fits all is. ends goal replies r all is;
    }
