-- Goals by candidates that ask inductively and coinductively alone are decisive; and where no candidate is marked, no
-- request of a frame is out of order.
use Rattle.std.proofs.Common.{ℕ, ◌≡◌, ◌+◌, Bool, true, false, cond, ◌&&◌, ◌||◌, nat_le, refl, sym, subst}
use Rattle.std.proofs.Common.{List, [], ◌∷◌, Contains, Option, Some, None}
use Rattle.std.specs.Prelude.{slice_get}
use Rattle.std.specs.Option.{unwrap_or}
use Rattle.delegate_parts.specs.Outcome.{outcome_verdicts}
use Rattle.search_context.specs.Decisive.{AreDecided, IsDecidedKind, IsDecidedReply, IsDecisive}
use Rattle.search_context.specs.Run.{IsOrderly, order_fault}
use Rattle.search_context.specs.Verdicts.{IsDefinite}
use Rattle.candidate_lists.specs.Below.{Answer, Begin, Done, EnterCandidate, Evaluate, FinishCandidate, Fits, Ignore}
use Rattle.candidate_lists.specs.Below.{is_no, is_yes, IsFitting, Maybe, No, Noted, Outcome, Overflow, PathKind}
use Rattle.candidate_lists.specs.Below.{Progress, progress_after, progress_with, Question, Reply, Request}
use Rattle.candidate_lists.specs.Below.{request_after, Yes}
use Rattle.candidate_lists.specs.Candidate.{Candidate}
use Rattle.candidate_lists.specs.Frame.{asking, asking_in, asking_next, entering_next, ignoring, marked_from}
use Rattle.candidate_lists.specs.Frame.{outcome_by, script_of, State, state_after, state_with, with_answer}
use Rattle.candidate_lists.specs.Frame.{with_ignored}
use Rattle.candidate_lists.specs.Laws.Members.{Contains-from_slice_get}
use Rattle.candidate_lists.specs.Laws.Runs.{request_after-is}

-- a result that is yes or no
definite_by : (some_holds each_fails : Bool) → (some_holds || each_fails) ≡ true
    → IsDefinite outcome_verdicts (outcome_by some_holds each_fails)
definite_by true each_fails e = λ h. absurd cc
definite_by false true e = λ h. absurd cc
definite_by false false e = absurd cc

-- the open candidate holds or fails so far
answered_here : (holds fails : Bool) (r : Outcome) → IsDefinite outcome_verdicts r → (holds || fails) ≡ true
    → ((holds && is_yes r) || (fails || is_no r)) ≡ true
answered_here true fails Yes d e = refl
answered_here false true Yes d e = refl
answered_here false false Yes d e = absurd cc
answered_here true true No d e = refl
answered_here true false No d e = refl
answered_here false true No d e = refl
answered_here false false No d e = refl
answered_here holds fails Maybe d e = absurd (d refl)
answered_here holds fails Overflow d e = absurd (d refl)

-- once it is finished, some candidate holds or each one fails
finished_past : (some_holds each_fails holds fails : Bool) → (some_holds || each_fails) ≡ true
    → (holds || fails) ≡ true → ((some_holds || holds) || (each_fails && fails)) ≡ true
finished_past true each_fails holds fails e f = refl
finished_past false true true fails e f = refl
finished_past false true false true e f = refl
finished_past false true false false e f = absurd cc
finished_past false false holds fails e f = absurd cc

module _ {Q I : Type 0} (question_of : Q → Question I) where
  -- some candidate of these has a question that asks this
  pub record IsAskedIn (cs : List (Candidate Q)) (kind : PathKind) (goal : I) : Type 0 where
    pub candidate : Candidate Q
    pub is_candidate : Contains cs candidate
    pub question : Q
    pub is_question : Contains candidate.questions question
    pub same : question_of question ≡ record { kind = kind; goal = goal }

  abbrev AsksOf : List (Candidate Q) → Option (Request I Outcome) → Type 0
  AsksOf cs (Some (Evaluate kind goal)) = IsAskedIn cs kind goal
  AsksOf cs _ = Unit {0}

  module _ (cs : List (Candidate Q)) where
    ignored-asks : (s : State I) (o : Option ℕ) → AsksOf cs (with_ignored s o).request
    ignored-asks s None = tt
    ignored-asks s (Some n) = tt

    ignoring-asks : (s : State I) → AsksOf cs (ignoring cs s).request
    ignoring-asks s = ignored-asks s (cond s.unmarked_holds (marked_from 0 cs s.next_ignored) None)

    entering-asks : (s : State I) (o : Option (Candidate Q)) → AsksOf cs (entering_next cs s o).request
    entering-asks s None = ignoring-asks s
    entering-asks s (Some c) = tt

    asking_next-asks : (c : Candidate Q) → Contains cs c → (s : State I) (o : Option Q)
        → slice_get c.questions s.question ≡ o → AsksOf cs (asking_next question_of c s o).request
    asking_next-asks c has s None e = tt
    asking_next-asks c has s (Some a) e = record {
      candidate = c;
      is_candidate = has;
      question = a;
      is_question = Contains-from_slice_get c.questions s.question a e;
      same = refl;
    }

    asking-asks : (s : State I) (o : Option (Candidate Q)) → slice_get cs s.candidate ≡ o
        → AsksOf cs (asking_in question_of cs s o).request
    asking-asks s None e = ignoring-asks s
    asking-asks s (Some c) e = asking_next-asks c (Contains-from_slice_get cs s.candidate c e) s
        (slice_get c.questions s.question) refl

    step-asks : (s : State I) (q : Option (Request I Outcome)) (r : Reply Outcome) → AsksOf cs s.request
        → AsksOf cs (state_with question_of cs s q r).request
    step-asks s None Begin h = entering-asks s (slice_get cs s.candidate)
    step-asks s (Some EnterCandidate) Noted h = asking-asks s (slice_get cs s.candidate) refl
    step-asks s (Some (Evaluate kind goal)) (Answer r) h =
        asking-asks (with_answer s r) (slice_get cs s.candidate) refl
    step-asks s (Some FinishCandidate) Noted h = entering-asks s (slice_get cs s.candidate)
    step-asks s (Some (Ignore n)) Noted h = ignoring-asks s
    step-asks s _ _ h = h

    after-asks : (replies : List (Reply Outcome)) → AsksOf cs (state_after question_of cs replies).request
    after-asks [] = tt
    after-asks (r ∷ earlier) =
        let s = state_after question_of cs earlier in step-asks s s.request r (after-asks earlier)

    asks_by : (o : Option (Request I Outcome)) (kind : PathKind) (goal : I)
        → Some (unwrap_or o EnterCandidate) ≡ Some (Evaluate kind goal) → AsksOf cs o → IsAskedIn cs kind goal
    asks_by None kind goal e h = absurd cc
    asks_by (Some q) kind goal e h =
        let same : q ≡ Evaluate kind goal = cc in subst (λ x. AsksOf cs (Some x)) same h

    -- a script asks what its goal's candidates ask, and nothing else
    pub asked_of : (replies : List (Reply Outcome)) (kind : PathKind) (goal : I)
        → request_after (script_of question_of cs) replies ≡ Some (Evaluate kind goal) → IsAskedIn cs kind goal
    asked_of [] kind goal e = absurd cc
    asked_of (r ∷ earlier) kind goal e =
        asks_by (state_after question_of cs (r ∷ earlier)).request kind goal e (after-asks (r ∷ earlier))

  abbrev EndsDefinite : Option (Request I Outcome) → Type 0
  EndsDefinite (Some (Done r)) = IsDefinite outcome_verdicts r
  EndsDefinite _ = Unit {0}

  -- some candidate so far holds or each one fails, and so it is of the answers in the open one; a result is yes or no
  record IsDecided (s : State I) : Type 0 where
    pub past : (s.some_holds || s.each_fails) ≡ true
    pub here : (s.holds || s.fails) ≡ true
    pub done : EndsDefinite s.request

  module _ (cs : List (Candidate Q)) where
    ignored-decided : (s : State I) → IsDecided s → (o : Option ℕ) → IsDecided (with_ignored s o)
    ignored-decided s h None =
        record { past = h.past; here = h.here; done = definite_by s.some_holds s.each_fails h.past }
    ignored-decided s h (Some n) = record { past = h.past; here = h.here; done = tt }

    ignoring-decided : (s : State I) → IsDecided s → IsDecided (ignoring cs s)
    ignoring-decided s h = ignored-decided s h (cond s.unmarked_holds (marked_from 0 cs s.next_ignored) None)

    entering-decided : (s : State I) → IsDecided s → (o : Option (Candidate Q)) → IsDecided (entering_next cs s o)
    entering-decided s h None = ignoring-decided s h
    entering-decided s h (Some c) = record { past = h.past; here = refl; done = tt }

    asking_next-decided : (c : Candidate Q) (s : State I) → IsDecided s → (o : Option Q)
        → IsDecided (asking_next question_of c s o)
    asking_next-decided c s h None = record {
      past = finished_past s.some_holds s.each_fails s.holds s.fails h.past h.here;
      here = h.here;
      done = tt;
    }
    asking_next-decided c s h (Some a) = record { past = h.past; here = h.here; done = tt }

    asking-decided : (s : State I) → IsDecided s → (o : Option (Candidate Q)) → IsDecided (asking_in question_of cs s o)
    asking-decided s h None = ignoring-decided s h
    asking-decided s h (Some c) = asking_next-decided c s h (slice_get c.questions s.question)

    answer-decided : (s : State I) → IsDecided s → (r : Outcome) → IsDefinite outcome_verdicts r
        → IsDecided (asking question_of cs (with_answer s r))
    answer-decided s h r definite =
        asking-decided (with_answer s r)
        (record { past = h.past; here = answered_here s.holds s.fails r definite h.here; done = h.done })
        (slice_get cs s.candidate)

    step-decided : (s : State I) (q : Option (Request I Outcome)) (r : Reply Outcome)
        → IsDecidedReply outcome_verdicts r → IsDecided s → IsDecided (state_with question_of cs s q r)
    step-decided s None Begin d h = entering-decided s h (slice_get cs s.candidate)
    step-decided s (Some EnterCandidate) Noted d h = asking-decided s h (slice_get cs s.candidate)
    step-decided s (Some (Evaluate kind goal)) (Answer r) d h = answer-decided s h r d
    step-decided s (Some FinishCandidate) Noted d h = entering-decided s h (slice_get cs s.candidate)
    step-decided s (Some (Ignore n)) Noted d h = ignoring-decided s h
    step-decided s _ _ d h = h

    after-decided : (replies : List (Reply Outcome)) → AreDecided outcome_verdicts replies
        → IsDecided (state_after question_of cs replies)
    after-decided [] d = record { past = refl; here = refl; done = tt }
    after-decided (r ∷ earlier) d =
        let s = state_after question_of cs earlier in step-decided s s.request r d.0 (after-decided earlier d.1)

    ends_by : (o : Option (Request I Outcome)) (r : Outcome) → Some (unwrap_or o EnterCandidate) ≡ Some (Done r)
        → EndsDefinite o → IsDefinite outcome_verdicts r
    ends_by None r e h = absurd cc
    ends_by (Some q) r e h = let same : q ≡ Done r = cc in subst (λ x. EndsDefinite (Some x)) same h

    -- after answers that are yes or no, the result is yes or no
    pub ends_definite : (replies : List (Reply Outcome)) (r : Outcome) → AreDecided outcome_verdicts replies
        → request_after (script_of question_of cs) replies ≡ Some (Done r) → IsDefinite outcome_verdicts r
    ends_definite [] r d e = absurd cc
    ends_definite (x ∷ earlier) r d e =
        ends_by (state_after question_of cs (x ∷ earlier)).request r e (after-decided (x ∷ earlier) d).done

  -- goals that ask by such kinds alone are decided where no limit is met
  pub decisive : (candidates_of : I → List (Candidate Q))
      → ((goal : I) (c : Candidate Q) (a : Q) → Contains (candidates_of goal) c → Contains c.questions a
      → IsDecidedKind (question_of a).kind)
      → IsDecisive outcome_verdicts (λ goal. script_of question_of (candidates_of goal))
  decisive candidates_of kinds = record {
    asks = λ goal asked replies kind fitting e.
        let a = asked_of (candidates_of goal) replies kind asked e in
        subst (λ (x : Question I). IsDecidedKind x.kind) a.same
        (kinds goal a.candidate a.question a.is_candidate a.is_question);
    ends = λ goal replies r fitting d e. ends_definite (candidates_of goal) replies r d e;
  }

  -- no candidate is marked
  abbrev pub AreUnmarked : List (Candidate Q) → Type 0
  AreUnmarked [] = Unit {0}
  AreUnmarked (c ∷ cs) = (c.is_marked ≡ false) × AreUnmarked cs

  passed_over : (b marked : Bool) (at : ℕ) (o : Option ℕ) → marked ≡ false → o ≡ None
      → cond (b && marked) (Some at) o ≡ None
  passed_over true true at o e f = absurd cc
  passed_over true false at o e f = f
  passed_over false marked at o e f = f

  none_marked : (at : ℕ) (cs : List (Candidate Q)) (from : ℕ) → AreUnmarked cs → marked_from at cs from ≡ None
  none_marked at [] from u = refl
  none_marked at (c ∷ cs) from u =
      passed_over (nat_le from at) c.is_marked at (marked_from (at + 1) cs from) u.0 (none_marked (at + 1) cs from u.1)

  -- the request suits what was opened so far
  abbrev Suits : Progress I Outcome → Option (Request I Outcome) → Type 0
  Suits p None = p.is_open ≡ false
  Suits p (Some EnterCandidate) = p.is_open ≡ false
  Suits p (Some (Evaluate kind goal)) = p.is_open ≡ true
  Suits p (Some FinishCandidate) = p.is_open ≡ true
  Suits p (Some (Ignore n)) = ⊥
  Suits p (Some (Done r)) = Unit {0}

  no_fault : (p : Progress I Outcome) (o : Option (Request I Outcome)) → Suits p o → order_fault p o ≡ None
  no_fault p None h = refl
  no_fault p (Some EnterCandidate) h = rw h refl
  no_fault p (Some (Evaluate kind goal)) h = refl
  no_fault p (Some FinishCandidate) h = rw h refl
  no_fault p (Some (Ignore n)) h = absurd h
  no_fault p (Some (Done r)) h = refl

  module _ (cs : List (Candidate Q)) (unmarked : AreUnmarked cs) where
    none_ignored : (b : Bool) (from : ℕ) → cond b (marked_from 0 cs from) None ≡ None
    none_ignored true from = none_marked 0 cs from unmarked
    none_ignored false from = refl

    ignoring-suits : (s : State I) (p : Progress I Outcome) → Suits p (ignoring cs s).request
    ignoring-suits s p = subst (λ o. Suits p (with_ignored s o).request)
        (sym (none_ignored s.unmarked_holds s.next_ignored)) tt

    entering-suits : (s : State I) (p : Progress I Outcome) → p.is_open ≡ false → (o : Option (Candidate Q))
        → Suits p (entering_next cs s o).request
    entering-suits s p closed None = ignoring-suits s p
    entering-suits s p closed (Some c) = closed

    asking_next-suits : (c : Candidate Q) (s : State I) (p : Progress I Outcome) → p.is_open ≡ true → (o : Option Q)
        → Suits p (asking_next question_of c s o).request
    asking_next-suits c s p is_open None = is_open
    asking_next-suits c s p is_open (Some a) = is_open

    asking-suits : (s : State I) (p : Progress I Outcome) → p.is_open ≡ true → (o : Option (Candidate Q))
        → Suits p (asking_in question_of cs s o).request
    asking-suits s p is_open None = ignoring-suits s p
    asking-suits s p is_open (Some c) = asking_next-suits c s p is_open (slice_get c.questions s.question)

    step-suits : (s : State I) (p : Progress I Outcome) (q : Option (Request I Outcome)) (r : Reply Outcome)
        → Fits q r → Suits p q → Suits (progress_with p q r) (state_with question_of cs s q r).request
    step-suits s p None Begin fits h = entering-suits s p h (slice_get cs s.candidate)
    step-suits s p (Some EnterCandidate) Noted fits h =
        asking-suits s (record p { is_open = true }) refl (slice_get cs s.candidate)
    step-suits s p (Some (Evaluate kind goal)) (Answer r) fits h =
        asking-suits (with_answer s r) (progress_with p (Some (Evaluate kind goal)) (Answer r)) h
        (slice_get cs s.candidate)
    step-suits s p (Some FinishCandidate) Noted fits h =
        entering-suits s (record p { is_open = false; finished = p.finished + 1 }) refl (slice_get cs s.candidate)
    step-suits s p (Some (Ignore n)) Noted fits h = absurd h
    step-suits s p _ _ fits h = absurd fits

    abbrev script : List (Reply Outcome) → Request I Outcome
    script = script_of question_of cs

    after-suits : (replies : List (Reply Outcome)) → IsFitting script replies
        → Suits (progress_after script replies) (request_after script replies)
    after-suits [] fitting = refl
    after-suits (r ∷ earlier) fitting =
        let s = state_after question_of cs earlier in
        let p = progress_after script earlier in
        let is = request_after-is question_of cs earlier fitting.1 in
        let suits = subst (Suits p) is (after-suits earlier fitting.1) in
        subst (Suits (progress_after script (r ∷ earlier)))
        (sym (request_after-is question_of cs (r ∷ earlier) fitting))
        (subst (λ q. Suits (progress_with p q r) (state_with question_of cs s s.request r).request) (sym is)
        (step-suits s p s.request r (subst (λ q. Fits q r) is fitting.0) suits))

    -- so no request is out of order
    pub orderly : IsOrderly script
    orderly replies fitting =
        no_fault (progress_after script replies) (request_after script replies) (after-suits replies fitting)
