-- What the result of a run rests on.
use Rattle.std.specs.Prelude.{◌≡◌, Bool, true, false, ◌&&◌, if◌then◌else◌, List, [], ◌∷◌, ◌++◌, filter, Contains}
use Rattle.std.specs.Prelude.{Option, Some, None, refl, ⊤}
use Rattle.std.proofs.Common.{ap, sym, subst, arith}
use Rattle.std.proofs.lemmas.List.Elements.{Contains-append_left, Contains-push}
use Rattle.search_context.proofs.Graphs.{Contains-filtered, Contains-mapped}
use Rattle.question_lists.specs.Below.{Question, IsWithin, Overlap, Request, Evaluate, Reply, Begin, Answer, Noted}
use Rattle.question_lists.specs.Below.{Outcome, Yes, No, Maybe, is_yes, is_no, EndsIn, Asked, Progress, progress_with}
use Rattle.question_lists.specs.Below.{progress_after, questions_answered, is_counted, request_after}
use Rattle.question_lists.specs.declared.needs.Needs.{Needs}
use Rattle.question_lists.specs.declared.needs.Needs.TheVariants.{All, Any}
use Rattle.question_lists.specs.Needs.{Proves, Refutes}
use Rattle.question_lists.specs.Frame.{outcome_of, request_for, next_question, state_after, script_of}
use Rattle.question_lists.specs.Told.{IsEnd, Early, Full, Undecided, is_end}

-- a question that was answered outside candidates
abbrev pub answered : {I : Type 0} → Question I → Outcome → Asked I Outcome
answered q r = record { question = q; answer = r; candidate = None }

module _ {I : Type 0} where
  -- no candidate is begun
  still_closed : (p : Progress I Outcome) (so_far : Outcome) (o : Option (Question I)) (x : Reply Outcome)
      → p.is_open ≡ false → (progress_with p (Some (request_for so_far o)) x).is_open ≡ false
  still_closed p so_far None Begin h = h
  still_closed p so_far None (Answer r) h = h
  still_closed p so_far None Noted h = h
  still_closed p so_far (Some q) Begin h = h
  still_closed p so_far (Some q) (Answer r) h = h
  still_closed p so_far (Some q) Noted h = h

  -- what was asked stays so
  still_asked : (p : Progress I Outcome) (so_far : Outcome) (o : Option (Question I)) (x : Reply Outcome)
      (a : Asked I Outcome) → Contains p.asked a → Contains (progress_with p (Some (request_for so_far o)) x).asked a
  still_asked p so_far None Begin a h = h
  still_asked p so_far None (Answer r) a h = h
  still_asked p so_far None Noted a h = h
  still_asked p so_far (Some q) Begin a h = h
  still_asked p so_far (Some q) (Answer r) a h = Contains-append_left p.asked _ a h
  still_asked p so_far (Some q) Noted a h = h

  asked_now : (p : Progress I Outcome) (o : Option (Request I Outcome)) (q : Question I) (r : Outcome)
      → p.is_open ≡ false → o ≡ Some (Evaluate q.kind q.goal)
      → Contains (progress_with p o (Answer r)).asked (answered q r)
  asked_now p o q r h e =
      subst (λ z. Contains (progress_with p z (Answer r)).asked (answered q r)) (sym e)
      (subst (λ b. Contains (p.asked ++ record {
        question = q;
        answer = r;
        candidate = (if b then Some p.finished else None);
      } ∷ []) (answered q r)) (sym h) (Contains-push p.asked (answered q r)))

  counts : (test : Outcome → Bool) (p : Progress I Outcome) (q : Question I) (r : Outcome) → test r ≡ true
      → Contains p.asked (answered q r) → Contains (questions_answered test p) q
  counts test p q r passes has =
      Contains-mapped (λ x. x.question)
      (filter (λ x. test x.answer && is_counted p.ignored x.candidate) p.asked) (answered q r)
      (Contains-filtered (λ x. test x.answer && is_counted p.ignored x.candidate) p.asked
      (answered q r) has (passes_both (test r) passes))
    where
      passes_both : (b : Bool) → b ≡ true → (b && true) ≡ true
      passes_both b e = rw e refl

module _ {I : Type 0} (needs : Needs) (questions : List (Question I)) where
  -- the progress of the goal's frame
  abbrev progress : List (Reply Outcome) → Progress I Outcome
  progress replies = progress_after (script_of needs questions) replies

  closed : (replies : List (Reply Outcome)) → (progress replies).is_open ≡ false
  closed [] = refl
  closed (x ∷ []) = first_closed x
    where
      first_closed : (x : Reply Outcome) → (progress (x ∷ [])).is_open ≡ false
      first_closed Begin = refl
      first_closed (Answer r) = refl
      first_closed Noted = refl
  closed (x ∷ y ∷ earlier) =
      let s = state_after needs (y ∷ earlier) in
      still_closed (progress (y ∷ earlier)) (outcome_of needs s)
      (next_question questions s.has_enough s.place) x (closed (y ∷ earlier))

  abbrev WasAsked : List (Reply Outcome) → Question I → Outcome → Type 0
  WasAsked replies q r = Contains (progress replies).asked (answered q r)

  pub keep : (earlier : List (Reply Outcome)) (reply : Reply Outcome) (q : Question I) (r : Outcome)
      → WasAsked earlier q r → WasAsked (reply ∷ earlier) q r
  keep [] reply q r h = absurd (none h)
    where
      none : Contains {X = Asked I Outcome} [] (answered q r) → ⊥
      none h = absurd (omega (arith, h.1))
  keep (y ∷ earlier) reply q r h =
      let s = state_after needs (y ∷ earlier) in
      still_asked (progress (y ∷ earlier)) (outcome_of needs s)
      (next_question questions s.has_enough s.place) reply (answered q r) h

  pub new : (earlier : List (Reply Outcome)) (q : Question I) (r : Outcome)
      → request_after (script_of needs questions) earlier ≡ Some (Evaluate q.kind q.goal)
      → ⊤ → WasAsked (Answer r ∷ earlier) q r
  new earlier q r e _ =
      asked_now (progress earlier) (request_after (script_of needs questions) earlier) q r (closed earlier) e

  pub run_end : (replies : List (Reply Outcome)) (r : Outcome) → EndsIn (script_of needs questions) replies r
      → IsEnd needs questions (λ _ _. ⊤) WasAsked keep new replies r
  run_end replies r ends = is_end needs questions (λ _ _. ⊤) WasAsked keep new replies r ends.is_fitting ends.is_done

  all_of : (test : Outcome → Bool) (replies : List (Reply Outcome))
      → ((q : Question I) → Contains questions q → (r : Outcome) × (test r ≡ true) × WasAsked replies q r)
      → IsWithin questions (questions_answered test (progress replies))
  all_of test replies h q has = let w = h q has in counts test (progress replies) q w.0 w.1 w.2

  some_of : (test : Outcome → Bool) (replies : List (Reply Outcome)) (q : Question I) → Contains questions q
      → (r : Outcome) × (test r ≡ true) × WasAsked replies q r
      → Overlap questions (questions_answered test (progress replies))
  some_of test replies q has w = (q, has, counts test (progress replies) q w.0 w.1 w.2)

not_yes : (r s : Outcome) → r ≡ s → is_yes s ≡ false → is_yes r ≡ true → ⊥
not_yes r s e f t = let g : is_yes r ≡ is_yes s = ap is_yes e in absurd cc

not_no : (r s : Outcome) → r ≡ s → is_no s ≡ false → is_no r ≡ true → ⊥
not_no r s e f t = let g : is_no r ≡ is_no s = ap is_no e in absurd cc

module _ {I : Type 0} (questions : List (Question I)) (replies : List (Reply Outcome)) (r : Outcome) where
  all_yes : is_yes r ≡ true
      → IsEnd All questions (λ _ _. ⊤) (WasAsked All questions) (keep All questions) (new All questions) replies r
      → IsWithin questions (questions_answered is_yes (progress All questions replies))
  all_yes is (Early e q has w) = absurd (not_yes r No e refl is)
  all_yes is (Full e h) = all_of All questions is_yes replies h
  all_yes is (Undecided e q has w) = absurd (not_yes r Maybe e refl is)

  any_yes : is_yes r ≡ true
      → IsEnd Any questions (λ _ _. ⊤) (WasAsked Any questions) (keep Any questions) (new Any questions) replies r
      → Overlap questions (questions_answered is_yes (progress Any questions replies))
  any_yes is (Early e q has w) = some_of Any questions is_yes replies q has w
  any_yes is (Full e h) = absurd (not_yes r No e refl is)
  any_yes is (Undecided e q has w) = absurd (not_yes r Maybe e refl is)

  all_no : is_no r ≡ true
      → IsEnd All questions (λ _ _. ⊤) (WasAsked All questions) (keep All questions) (new All questions) replies r
      → Overlap questions (questions_answered is_no (progress All questions replies))
  all_no is (Early e q has w) = some_of All questions is_no replies q has w
  all_no is (Full e h) = absurd (not_no r Yes e refl is)
  all_no is (Undecided e q has w) = absurd (not_no r Maybe e refl is)

  any_no : is_no r ≡ true
      → IsEnd Any questions (λ _ _. ⊤) (WasAsked Any questions) (keep Any questions) (new Any questions) replies r
      → IsWithin questions (questions_answered is_no (progress Any questions replies))
  any_no is (Early e q has w) = absurd (not_no r Yes e refl is)
  any_no is (Full e h) = all_of Any questions is_no replies h
  any_no is (Undecided e q has w) = absurd (not_no r Maybe e refl is)

pub yes_is_proved : {I : Type 0} (needs : Needs) (questions : List (Question I)) (replies : List (Reply Outcome))
    (r : Outcome) → EndsIn (script_of needs questions) replies r → is_yes r ≡ true →
    Proves needs questions (questions_answered is_yes (progress_after (script_of needs questions) replies))
yes_is_proved All questions replies r ends is = all_yes questions replies r is (run_end All questions replies r ends)
yes_is_proved Any questions replies r ends is = any_yes questions replies r is (run_end Any questions replies r ends)

pub no_is_refuted : {I : Type 0} (needs : Needs) (questions : List (Question I)) (replies : List (Reply Outcome))
    (r : Outcome) → EndsIn (script_of needs questions) replies r → is_no r ≡ true →
    Refutes needs questions (questions_answered is_no (progress_after (script_of needs questions) replies))
no_is_refuted All questions replies r ends is = all_no questions replies r is (run_end All questions replies r ends)
no_is_refuted Any questions replies r ends is = any_no questions replies r is (run_end Any questions replies r ends)
