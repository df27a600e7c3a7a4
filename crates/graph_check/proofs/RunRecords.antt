-- The record of a run that is replayed, after each reply and request.
use Rattle.std.proofs.Common.{◌≡◌, ℕ, ◌+◌, ◌<◌, ◌==◌, nat_lt, Bool, true, false, not, ◌&&◌, ◌||◌, if◌then◌else◌, List}
use Rattle.std.proofs.Common.{[], ◌∷◌, ◌++◌, map, length, Option, Some, None, refl, sym, ap, ap₂, ◌∙◌, arith}
use Rattle.std.specs.List.{filter}
use Rattle.std.proofs.lemmas.List.{append-nil, map-append, length-append, length-set}
use Rattle.std.proofs.lemmas.List.Elements.{filter_agree}
use Rattle.std.proofs.lemmas.Bool.Decides.{nat_tests}
use Rattle.graph_check.specs.Below.{PathKind, Request, Evaluate, EnterCandidate, FinishCandidate, Ignore, Done, Reply}
use Rattle.graph_check.specs.Below.{Begin, Answer, Noted, Question, Progress, Asked, progress_with, order_fault}
use Rattle.graph_check.specs.Below.{counted_by, ignored_by, is_ignored, is_counted, open_candidate}
use Rattle.graph_check.specs.Below.{questions_answered, Fits}
use Rattle.graph_check.specs.Words.{Replayed, replied, is_answer, is_orderly, open_number, asked_of, asked_in}
use Rattle.graph_check.specs.Words.{questions_counted, IsReplayOf}
use Rattle.search_context.proofs.Filtered.{filtered_more, filtered_twice, filtered_halves}
use Rattle.search_context.proofs.Filtered.{ignored_after_finish, ignored_after_ignore}

-- a candidate may begin or end, or else that is a fault
module _ (fault : ℕ) where
  begins_if : (is_open : Bool) → not is_open ≡ true → (if is_open then Some fault else None) ≡ None
  begins_if true is = cc
  begins_if false is = refl

  begins_not : (is_open : Bool) → not is_open ≡ false → (if is_open then Some fault else None) ≡ None → ⊥
  begins_not true is none = cc
  begins_not false is none = cc

  ends_if : (is_open : Bool) → is_open ≡ true → (if is_open then None else Some fault) ≡ None
  ends_if true is = refl
  ends_if false is = cc

  ends_not : (is_open : Bool) → is_open ≡ false → (if is_open then None else Some fault) ≡ None → ⊥
  ends_not true is none = cc
  ends_not false is none = cc

-- a candidate may be ignored, or else that is one of two faults
module _ (fault other : ℕ) where
  ignored_if : (within ignored : Bool) → within && not ignored ≡ true
      → (if within then (if ignored then Some fault else None) else Some other) ≡ None
  ignored_if true true is = cc
  ignored_if true false is = refl
  ignored_if false ignored is = cc

  ignored_not : (within ignored : Bool) → within && not ignored ≡ false
      → (if within then (if ignored then Some fault else None) else Some other) ≡ None → ⊥
  ignored_not true true is none = cc
  ignored_not true false is none = cc
  ignored_not false ignored is none = cc

  ignored_within : (m finished : ℕ) (ignored : Bool)
      → (if nat_lt m finished then (if ignored then Some fault else None) else Some other) ≡ None → m < finished
  ignored_within m finished ignored orderly = grind (arith, nat_tests)

module _ {I R : Type 0} (test : R → Bool) (p : Replayed I R) (done : Progress I R) (h : IsReplayOf test p done) where
  same_number : open_number p ≡ open_candidate done
  same_number = ap₂ (λ b n. if b then Some n else None) h.open_is h.finished_are

  same_to_ignore : (n : ℕ) → nat_lt n (length p.ignored) && not (ignored_by p.ignored n)
      ≡ nat_lt n done.finished && not (is_ignored done.ignored n)
  same_to_ignore n = ap₂ (λ m b. nat_lt n m && not b) h.finished_are (sym (h.ignored_are n))

  -- what is orderly by the record is no fault of the run,
  pub no_fault : (request : Request I R) → is_orderly p request ≡ true → order_fault done (Some request) ≡ None
  no_fault EnterCandidate is = begins_if 1 done.is_open (ap not (sym h.open_is) ∙ is)
  no_fault FinishCandidate is = ends_if 2 done.is_open (sym h.open_is ∙ is)
  no_fault (Ignore n) is =
      ignored_if 4 3 (nat_lt n done.finished) (is_ignored done.ignored n) (sym (same_to_ignore n) ∙ is)
  no_fault (Evaluate kind goal) is = refl
  no_fault (Done r) is = refl

  -- and what is not is one
  pub some_fault : (request : Request I R) → is_orderly p request ≡ false → order_fault done (Some request) ≡ None → ⊥
  some_fault EnterCandidate is none = begins_not 1 done.is_open (ap not (sym h.open_is) ∙ is) none
  some_fault FinishCandidate is none = ends_not 2 done.is_open (sym h.open_is ∙ is) none
  some_fault (Ignore n) is none =
      ignored_not 4 3 (nat_lt n done.finished) (is_ignored done.ignored n) (sym (same_to_ignore n) ∙ is) none
  some_fault (Evaluate kind goal) is none = cc
  some_fault (Done r) is none = cc

  -- a question counts where its answer passes the test
  agrees_answered : (kind : PathKind) (goal : I) (r : R) (b : Bool) → test r ≡ b → IsReplayOf test
      (replied p (Some (Evaluate kind goal)) b) (progress_with done (Some (Evaluate kind goal)) (Answer r))
  agrees_answered kind goal r true is = record {
    open_is = h.open_is;
    finished_are = h.finished_are;
    ignored_are = h.ignored_are;
    asked_are =
        map-append asked_of p.asked (record { kind = kind; input = goal; candidate = open_number p } ∷ [])
        ∙ ap₂ (λ asked c. asked ++ (record { kind = kind; goal = goal }, c) ∷ []) h.asked_are same_number
        ∙ sym (filtered_more asked_in (λ (a : Asked I R). test a.answer) done.asked (record {
          question = record { kind = kind; goal = goal };
          answer = r;
          candidate = open_candidate done;
        }) true is);
  }
  agrees_answered kind goal r false is = record {
    open_is = h.open_is;
    finished_are = h.finished_are;
    ignored_are = h.ignored_are;
    asked_are =
        h.asked_are
        ∙ sym (append-nil _)
        ∙ sym (filtered_more asked_in (λ (a : Asked I R). test a.answer) done.asked (record {
          question = record { kind = kind; goal = goal };
          answer = r;
          candidate = open_candidate done;
        }) false is);
  }

  -- the record agrees with the run after each reply to a request that isn't out of order
  pub agrees_replied : (request : Option (Request I R)) (reply : Reply R)
      → order_fault done request ≡ None → Fits request reply
      → IsReplayOf test (replied p request (is_answer test reply)) (progress_with done request reply)
  agrees_replied None Begin orderly fits = h
  agrees_replied (Some (Evaluate kind goal)) (Answer r) orderly fits = agrees_answered kind goal r (test r) refl
  agrees_replied (Some EnterCandidate) Noted orderly fits =
      record { open_is = refl; finished_are = h.finished_are; ignored_are = h.ignored_are; asked_are = h.asked_are }
  agrees_replied (Some FinishCandidate) Noted orderly fits = record {
    open_is = refl;
    finished_are = length-append p.ignored (false ∷ []) ∙ ap (λ n. n + 1) h.finished_are;
    ignored_are = λ n. h.ignored_are n ∙ sym (ignored_after_finish p.ignored n);
    asked_are = h.asked_are;
  }
  agrees_replied (Some (Ignore m)) Noted orderly fits =
      let within : m < length p.ignored =
      rw h.finished_are (ignored_within 4 3 m done.finished (is_ignored done.ignored m) orderly) in
      record {
        open_is = h.open_is;
        finished_are = length-set p.ignored m true ∙ h.finished_are;
        ignored_are = λ n. ap (λ b. m == n || b) (h.ignored_are n) ∙ sym (ignored_after_ignore p.ignored m n within);
        asked_are = h.asked_are;
      }
  agrees_replied request reply orderly fits = absurd fits

  counted_by_number : (candidate : Option ℕ) → counted_by p.ignored candidate ≡ is_counted done.ignored candidate
  counted_by_number None = refl
  counted_by_number (Some n) = ap not (sym (h.ignored_are n))

  -- the record has the questions that the result rests on
  pub counted_are_answered : questions_counted p ≡ questions_answered test done
  counted_are_answered =
      filtered_halves asked_of (counted_by p.ignored) p.asked
      ∙ ap (λ (asked : List (Question I × Option ℕ)). map (λ q. q.0) (filter (λ q. counted_by p.ignored q.1) asked))
      h.asked_are
      ∙ ap (map (λ (q : Question I × Option ℕ). q.0))
      (filter_agree (λ q. counted_by p.ignored q.1) (λ q. is_counted done.ignored q.1) (λ q. counted_by_number q.1)
      (map asked_in (filter (λ (a : Asked I R). test a.answer) done.asked)))
      ∙ sym (filtered_twice asked_in (λ (a : Asked I R). test a.answer) (is_counted done.ignored) done.asked)
