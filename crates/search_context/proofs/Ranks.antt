-- Ranks and plain values: what is ranked stays so at every greater depth, and there is one plain value at most.
use Rattle.std.proofs.Common.{◌≡◌, ◌≢◌, ℕ, zero, suc, ◌<◌, inl, inr, List, [], ◌∷◌, length, Option, Some, None, refl}
use Rattle.std.proofs.Common.{sym, ap, ap₂, subst, arith}
use Rattle.std.proofs.lemmas.Bool.{cases_order}
use Rattle.std.proofs.lemmas.Bool.Decides.{eqb_tells}
use Rattle.search_context.specs.Words.{Request, Evaluate, EnterCandidate, FinishCandidate, Ignore, Done, Reply, Begin}
use Rattle.search_context.specs.Words.{Answer, Noted, request_after, IsReplyTo, AreRepliesTo, IsResultOf, IsPlainValue}

-- where each goal has one allowed answer at most, so has each request one reply
module _ {I R : Type 0} (allowed : I → R → Type 0)
    (one : (goal : I) (a b : R) → allowed goal a → allowed goal b → a ≡ b) where
  same_reply : (q : Option (Request I R)) (x y : Reply R) → IsReplyTo allowed q x → IsReplyTo allowed q y → x ≡ y
  same_reply None Begin Begin h k = refl
  same_reply None Begin _ h k = absurd k
  same_reply (Some (Evaluate kind goal)) (Answer a) (Answer b) h k = ap Answer (one goal a b h k)
  same_reply (Some (Evaluate kind goal)) (Answer a) _ h k = absurd k
  same_reply (Some EnterCandidate) Noted Noted h k = refl
  same_reply (Some EnterCandidate) Noted _ h k = absurd k
  same_reply (Some FinishCandidate) Noted Noted h k = refl
  same_reply (Some FinishCandidate) Noted _ h k = absurd k
  same_reply (Some (Ignore n)) Noted Noted h k = refl
  same_reply (Some (Ignore n)) Noted _ h k = absurd k
  same_reply _ _ _ h k = absurd h

  none_done : (r : R) (y : Reply R) → IsReplyTo allowed (Some (Done r)) y → ⊥
  none_done r Begin h = h
  none_done r _ h = h

  none_after : (r : R) (q : Option (Request I R)) (y : Reply R) → q ≡ Some (Done r) → IsReplyTo allowed q y → ⊥
  none_after r q y is h = none_done r y (subst (λ p. IsReplyTo allowed p y) is h)

  same_result : (script : List (Reply R) → Request I R) (r t : R) (xs ys : List (Reply R)) → xs ≡ ys
      → request_after script xs ≡ Some (Done r) → request_after script ys ≡ Some (Done t) → r ≡ t
  same_result script r t xs ys e h k =
      let g : request_after script xs ≡ request_after script ys = ap (request_after script) e in cc

  module _ (script : List (Reply R) → Request I R) where
    -- runs of one length are the same
    same_runs : (xs ys : List (Reply R)) → length xs ≡ length ys → AreRepliesTo allowed script xs
        → AreRepliesTo allowed script ys → xs ≡ ys
    same_runs [] [] e h k = refl
    same_runs [] (y ∷ ys) e h k = absurd (omega arith)
    same_runs (x ∷ xs) [] e h k = absurd (omega arith)
    same_runs (x ∷ xs) (y ∷ ys) e h k =
        let l : length xs ≡ length ys = omega arith in
        let same = same_runs xs ys l h.1 k.1 in
        ap₂ (λ a b. a ∷ b) (same_reply (request_after script xs) x y h.0
        (subst (λ zs. IsReplyTo allowed (request_after script zs) y) (sym same) k.0)) same

    -- no run is longer than one that has ended
    none_longer : (xs ys : List (Reply R)) (r : R) → AreRepliesTo allowed script xs
        → request_after script xs ≡ Some (Done r) → AreRepliesTo allowed script ys → length xs < length ys → ⊥
    none_longer xs [] r h is k l = omega arith
    none_longer xs (y ∷ ys) r h is k l =
        elim (eqb_tells (length xs) (length ys)) [
          | inl w ↦ none_after r (request_after script ys) y
              (subst (λ zs. request_after script zs ≡ Some (Done r)) (same_runs xs ys w.1 h k.1) is) k.0
          | inr w ↦ let ne : length xs ≢ length ys = w.1 in none_longer xs ys r h is k.1 (omega arith)
        ]

    one_result : (r t : R) → IsResultOf allowed script r → IsResultOf allowed script t → r ≡ t
    one_result r t h k =
        elim (cases_order (length h.replies) (length k.replies)) [
          | inl e ↦ same_result script r t h.replies k.replies
              (same_runs h.replies k.replies e h.is_answered k.is_answered) h.is_done k.is_done
          | inr apart ↦ absurd (elim apart [
            | inl l ↦ none_longer h.replies k.replies r h.is_answered h.is_done k.is_answered l
            | inr l ↦ none_longer k.replies h.replies t k.is_answered k.is_done h.is_answered l
          ])
        ]

-- a goal has one plain value at most
pub one_plain_value : {I R : Type 0} (scripts : I → List (Reply R) → Request I R) (n : ℕ) (goal : I) (r t : R)
    → IsPlainValue scripts n goal r → IsPlainValue scripts n goal t → r ≡ t
one_plain_value scripts zero goal r t h k = one_result (λ _ _. ⊥) (λ _ _ _ e. absurd e) (scripts goal) r t h k
one_plain_value scripts (suc n) goal r t h k =
    one_result (IsPlainValue scripts n) (one_plain_value scripts n) (scripts goal) r t h k
