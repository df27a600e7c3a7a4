-- What the results of a frame rest on.
use Rattle.std.specs.Prelude.{◌≡◌, ℕ, suc, ◌+◌, ◌<◌, Bool, true, false, cond, ◌&&◌, ◌||◌, not, List, [], ◌∷◌, ◌++◌}
use Rattle.std.specs.Prelude.{length, filter, slice_get, Contains, Option, Some, None, refl}
use Rattle.std.specs.Option.{unwrap_or}
use Rattle.std.proofs.Common.{sym, ap, ap₂, ◌∙◌, subst, arith, nat_le, inl, inr, ◌≢◌, ◌⊎◌}
use Rattle.std.proofs.lemmas.Bool.Decides.{eqb_tells}
use Rattle.std.proofs.lemmas.List.Elements.{Contains-append_left, Contains-push}
use Rattle.candidate_lists.specs.Laws.Members.{Contains-from_slice_get, slice_get-from_Contains, Contains-mapped}
use Rattle.candidate_lists.specs.Laws.Members.{Contains-filtered, before_end}
use Rattle.search_context.proofs.Graphs.{Contains-map}
use Rattle.candidate_lists.specs.Below.{PathKind, Request, Evaluate, EnterCandidate, FinishCandidate, Ignore, Done}
use Rattle.candidate_lists.specs.Below.{Reply, Begin, Answer, Noted, Question, EndsIn, Asked, Progress, progress_with}
use Rattle.candidate_lists.specs.Below.{progress_after, request_after, IsFitting, Fits, questions_answered, is_counted}
use Rattle.candidate_lists.specs.Below.{is_ignored, open_candidate, Outcome, Yes, No, Maybe, Overflow, is_yes, is_no}
use Rattle.candidate_lists.specs.Candidate.{Candidate, Proves, Refutes}
use Rattle.candidate_lists.specs.Frame.{marked_from, with_ignored, ignoring, entering_next, asking_next, asking_in}
use Rattle.candidate_lists.specs.Frame.{asking, with_answer, outcome_of, script_of, State, state_after, state_with}

module _ {Q I : Type 0} (question_of : Q → Question I) where
  -- the state has made a request
  abbrev pub HasMade : State I → Type 0
  HasMade s = s.request ≡ Some (unwrap_or s.request EnterCandidate)

  ignored-made : (s : State I) (o : Option ℕ) → HasMade (with_ignored s o)
  ignored-made s None = refl
  ignored-made s (Some n) = refl

  ignoring-made : (cs : List (Candidate Q)) (s : State I) → HasMade (ignoring cs s)
  ignoring-made cs s = ignored-made s (cond s.unmarked_holds (marked_from 0 cs s.next_ignored) None)

  entering-made : (cs : List (Candidate Q)) (s : State I) (o : Option (Candidate Q)) → HasMade (entering_next cs s o)
  entering-made cs s None = ignoring-made cs s
  entering-made cs s (Some c) = refl

  asking_next-made : (c : Candidate Q) (s : State I) (o : Option Q) → HasMade (asking_next question_of c s o)
  asking_next-made c s None = refl
  asking_next-made c s (Some a) = refl

  asking-made : (cs : List (Candidate Q)) (s : State I) (o : Option (Candidate Q))
      → HasMade (asking_in question_of cs s o)
  asking-made cs s None = ignoring-made cs s
  asking-made cs s (Some c) = asking_next-made c s (slice_get c.questions s.question)

  step-made : (cs : List (Candidate Q)) (s : State I) (q : Option (Request I Outcome)) (r : Reply Outcome) → Fits q r
      → HasMade (state_with question_of cs s q r)
  step-made cs s None Begin h = entering-made cs s (slice_get cs s.candidate)
  step-made cs s (Some EnterCandidate) Noted h = asking-made cs s (slice_get cs s.candidate)
  step-made cs s (Some (Evaluate kind goal)) (Answer r) h = asking-made cs (with_answer s r) (slice_get cs s.candidate)
  step-made cs s (Some FinishCandidate) Noted h = entering-made cs s (slice_get cs s.candidate)
  step-made cs s (Some (Ignore n)) Noted h = ignoring-made cs s
  step-made cs s _ _ h = absurd h

  -- the request to be answered is the one that the state has made
  pub request_after-is : (cs : List (Candidate Q)) (replies : List (Reply Outcome))
      → IsFitting (script_of question_of cs) replies
      → request_after (script_of question_of cs) replies ≡ (state_after question_of cs replies).request
  request_after-is cs [] h = refl
  request_after-is cs (r ∷ earlier) h =
      sym (step-made cs (state_after question_of cs earlier) (state_after question_of cs earlier).request r
      (subst (λ q. Fits q r) (request_after-is cs earlier h.1) h.0))

  -- a question of the candidate at a place, with its answer
  abbrev pub answered : Q → Outcome → ℕ → Asked I Outcome
  answered a r place = record { question = question_of a; answer = r; candidate = Some place }

  -- the candidate's first questions were answered yes
  abbrev pub AllYes : List (Asked I Outcome) → ℕ → Candidate Q → ℕ → Type 0
  AllYes asked place c n =
      (j : ℕ) (a : Q) → j < n → slice_get c.questions j ≡ Some a → Contains asked (answered a Yes place)

  -- one of the candidate's questions was answered no
  pub record SomeNo (asked : List (Asked I Outcome)) (place : ℕ) (c : Candidate Q) : Type 0 where
    pub at : ℕ
    pub asking : Q
    pub is_at : slice_get c.questions at ≡ Some asking
    pub is_asked : Contains asked (answered asking No place)

  -- a candidate holds, and an unmarked one if some unmarked one does
  pub record Holder (cs : List (Candidate Q)) (asked : List (Asked I Outcome)) (unmarked_holds : Bool) : Type 0 where
    pub place : ℕ
    pub candidate : Candidate Q
    pub is_at : slice_get cs place ≡ Some candidate
    pub all_yes : AllYes asked place candidate (length candidate.questions)
    pub is_unmarked : unmarked_holds ≡ true → candidate.is_marked ≡ false

  pub record IsMarkedAt (cs : List (Candidate Q)) (place : ℕ) : Type 0 where
    pub candidate : Candidate Q
    pub is_at : slice_get cs place ≡ Some candidate
    pub is_marked : candidate.is_marked ≡ true

  -- what is known of the candidates before a place, which are finished
  pub record PastCandidates (cs : List (Candidate Q)) (asked : List (Asked I Outcome)) (ignored : List ℕ) (place : ℕ)
      (some_holds unmarked_holds each_fails : Bool) : Type 0 where
    pub holder : some_holds ≡ true → Holder cs asked unmarked_holds
    pub some : unmarked_holds ≡ true → some_holds ≡ true
    pub failing : each_fails ≡ true → (k : ℕ) (c : Candidate Q) → k < place → slice_get cs k ≡ Some c → SomeNo asked k c
    pub only_marked : (n : ℕ) → is_ignored ignored n ≡ true → (unmarked_holds ≡ true) × IsMarkedAt cs n

  -- what is known of the candidate at a place, of which some questions were answered
  pub record InCandidate (cs : List (Candidate Q)) (asked : List (Asked I Outcome))
      (place n : ℕ) (holds fails : Bool) : Type 0 where
    pub candidate : Candidate Q
    pub is_at : slice_get cs place ≡ Some candidate
    pub yes_so_far : holds ≡ true → AllYes asked place candidate n
    pub no_so_far : fails ≡ true → SomeNo asked place candidate

  -- a question of it is now asked
  pub record AtQuestion (cs : List (Candidate Q)) (asked : List (Asked I Outcome)) (place n : ℕ)
      (holds fails : Bool) (q : Question I) : Type 0 where
    pub earlier : ℕ
    pub count : earlier + 1 ≡ n
    pub inside : InCandidate cs asked place earlier holds fails
    pub asking : Q
    pub is_asking : slice_get inside.candidate.questions earlier ≡ Some asking
    pub same : q ≡ question_of asking

  abbrev pub Mode : List (Candidate Q) → State I → Progress I Outcome → Option (Request I Outcome) → Type 0
  Mode cs s p None = p.finished ≡ s.candidate
  Mode cs s p (Some EnterCandidate) =
      (p.finished ≡ s.candidate) × InCandidate cs p.asked s.candidate s.question s.holds s.fails
  Mode cs s p (Some (Evaluate kind goal)) = (p.is_open ≡ true) × (p.finished ≡ s.candidate)
      × AtQuestion cs p.asked s.candidate s.question s.holds s.fails (record { kind = kind; goal = goal })
  Mode cs s p (Some FinishCandidate) = p.finished + 1 ≡ s.candidate
  Mode cs s p (Some (Ignore n)) = (slice_get cs s.candidate ≡ None) × (s.unmarked_holds ≡ true) × IsMarkedAt cs n
  Mode cs s p (Some (Done r)) = (slice_get cs s.candidate ≡ None) × (r ≡ outcome_of s)

  pub record Good (cs : List (Candidate Q)) (s : State I) (p : Progress I Outcome)
      (q : Option (Request I Outcome)) : Type 0 where
    pub past_candidates : PastCandidates cs p.asked p.ignored s.candidate s.some_holds s.unmarked_holds s.each_fails
    pub mode : Mode cs s p q

  -- Ignoring

  IsMarkedAt-next : (c : Candidate Q) (cs : List (Candidate Q)) (k : ℕ) → IsMarkedAt cs k → IsMarkedAt (c ∷ cs) (suc k)
  IsMarkedAt-next c cs k m = record { candidate = m.candidate; is_at = m.is_at; is_marked = m.is_marked }

  marked_at : (at : ℕ) (c : Candidate Q) (cs : List (Candidate Q)) (from n : ℕ) (b : Bool) →
      (b ≡ true → c.is_marked ≡ true) →
      (marked_from (at + 1) cs from ≡ Some n → (k : ℕ) × (n ≡ at + 1 + k) × IsMarkedAt cs k) →
      cond b (Some at) (marked_from (at + 1) cs from) ≡ Some n → (k : ℕ) × (n ≡ at + k) × IsMarkedAt (c ∷ cs) k
  marked_at at c cs from n true is rest e =
      let same : at ≡ n = cc in (0, omega arith, record { candidate = c; is_at = refl; is_marked = is refl })
  marked_at at c cs from n false is rest e =
      let w = rest e in (suc w.0, omega (arith, w.1), IsMarkedAt-next c cs w.0 w.2)

  and_second : (a b : Bool) → (a && b) ≡ true → b ≡ true
  and_second true b e = e
  and_second false b e = absurd cc

  marked_from-is : (at : ℕ) (cs : List (Candidate Q)) (from n : ℕ) → marked_from at cs from ≡ Some n
      → (k : ℕ) × (n ≡ at + k) × IsMarkedAt cs k
  marked_from-is at [] from n e = absurd cc
  marked_from-is at (c ∷ cs) from n e =
      marked_at at c cs from n (nat_le from at && c.is_marked) (and_second (nat_le from at) c.is_marked)
      (marked_from-is (at + 1) cs from n) e

  ignored_found : (cs : List (Candidate Q)) (from n : ℕ) (b : Bool)
      → cond b (marked_from 0 cs from) None ≡ Some n → (b ≡ true) × IsMarkedAt cs n
  ignored_found cs from n true e = let w = marked_from-is 0 cs from n e in let same : w.0 ≡ n = omega (arith, w.1) in
      (refl, subst (IsMarkedAt cs) same w.2)
  ignored_found cs from n false e = absurd cc

  module _ (cs : List (Candidate Q)) (s : State I) (p : Progress I Outcome) (past_candidates : PastCandidates cs p.asked
      p.ignored s.candidate s.some_holds s.unmarked_holds s.each_fails) where
    with_ignored-good : slice_get cs s.candidate ≡ None → (o : Option ℕ)
        → ((n : ℕ) → o ≡ Some n → (s.unmarked_holds ≡ true) × IsMarkedAt cs n)
        → Good cs (with_ignored s o) p (with_ignored s o).request
    with_ignored-good end None h = record { past_candidates = past_candidates; mode = (end, refl) }
    with_ignored-good end (Some n) h =
        record { past_candidates = past_candidates; mode = (end, (h n refl).0, (h n refl).1) }

    pub ignoring-good : slice_get cs s.candidate ≡ None → Good cs (ignoring cs s) p (ignoring cs s).request
    ignoring-good end = with_ignored-good end (cond s.unmarked_holds (marked_from 0 cs s.next_ignored) None)
        (λ n e. ignored_found cs s.next_ignored n s.unmarked_holds e)

    -- Entering

    pub entering-good : p.finished ≡ s.candidate → (o : Option (Candidate Q)) → slice_get cs s.candidate ≡ o
        → Good cs (entering_next cs s o) p (entering_next cs s o).request
    entering-good finished None e = ignoring-good e
    entering-good finished (Some c) e = record {
      past_candidates = past_candidates;
      mode = (
        finished,
        record { candidate = c; is_at = e; yes_so_far = λ _ j a l. absurd (omega arith); no_so_far = λ h. absurd cc },
      );
    }

  -- Finishing

  or_first : (a b : Bool) → a ≡ true → (a || b) ≡ true
  or_first true b e = refl
  or_first false b e = absurd cc

  both_true : (a b : Bool) → (a && b) ≡ true → (a ≡ true) × (b ≡ true)
  both_true true true e = (refl, refl)
  both_true true false e = absurd cc
  both_true false b e = absurd cc

  holder_after : (cs : List (Candidate Q)) (asked : List (Asked I Outcome)) (place : ℕ) (c : Candidate Q)
      (some_holds unmarked_holds holds marked : Bool) →
      (some_holds ≡ true → Holder cs asked unmarked_holds) →
      (unmarked_holds ≡ true → some_holds ≡ true) → slice_get cs place ≡ Some c →
      (holds ≡ true → AllYes asked place c (length c.questions)) → c.is_marked ≡ marked →
      (some_holds || holds) ≡ true → Holder cs asked (unmarked_holds || (holds && not marked))
  holder_after cs asked place c some_holds true holds marked old some is_at all is h = old (some refl)
  holder_after cs asked place c some_holds false true false old some is_at all is h =
      record { place = place; candidate = c; is_at = is_at; all_yes = all refl; is_unmarked = λ _. is }
  holder_after cs asked place c some_holds false true true old some is_at all is h =
      record { place = place; candidate = c; is_at = is_at; all_yes = all refl; is_unmarked = λ e. absurd cc }
  holder_after cs asked place c true false false marked old some is_at all is h = old refl
  holder_after cs asked place c false false false marked old some is_at all is h = absurd cc

  some_after : (some_holds unmarked_holds holds marked : Bool) → (unmarked_holds ≡ true → some_holds ≡ true)
      → (unmarked_holds || (holds && not marked)) ≡ true → (some_holds || holds) ≡ true
  some_after true unmarked_holds holds marked some h = refl
  some_after false true holds marked some h = absurd (let e : false ≡ true = some refl in cc)
  some_after false false true marked some h = refl
  some_after false false false marked some h = absurd cc

  same_at : (cs : List (Candidate Q)) (place k : ℕ) (c d : Candidate Q) → slice_get cs place ≡ Some c
      → slice_get cs k ≡ Some d → k ≡ place → c ≡ d
  same_at cs place k c d e f is = let g : slice_get cs place ≡ slice_get cs k = ap (slice_get cs) (sym is) in cc

  same_no : (cs : List (Candidate Q)) (asked : List (Asked I Outcome)) (place k : ℕ) (c d : Candidate Q)
      → slice_get cs place ≡ Some c → slice_get cs k ≡ Some d → k ≡ place → SomeNo asked place c → SomeNo asked k d
  same_no cs asked place k c d e f is no_here =
      let same : c ≡ d = same_at cs place k c d e f is in
      subst (λ x. SomeNo asked k x) same (subst (λ j. SomeNo asked j c) (sym is) no_here)

  failing_after : (cs : List (Candidate Q)) (asked : List (Asked I Outcome)) (place : ℕ) (c : Candidate Q) →
      slice_get cs place ≡ Some c → SomeNo asked place c →
      ((k : ℕ) (d : Candidate Q) → k < place → slice_get cs k ≡ Some d → SomeNo asked k d) → (k : ℕ) (d : Candidate Q) →
      k < place + 1 → slice_get cs k ≡ Some d → SomeNo asked k d
  failing_after cs asked place c is_at here below k d l e =
      elim (eqb_tells k place) [
        | inl w ↦ same_no cs asked place k c d is_at e w.1 here
        | inr w ↦ let ne : k ≢ place = w.1 in below k d (omega arith) e
      ]

  pub finished_past : (cs : List (Candidate Q)) (asked : List (Asked I Outcome)) (ignored : List ℕ) (place n : ℕ)
      (some_holds unmarked_holds each_fails holds fails : Bool) →
      PastCandidates cs asked ignored place some_holds unmarked_holds each_fails →
      (inside : InCandidate cs asked place n holds fails) → slice_get inside.candidate.questions n ≡ None →
      PastCandidates cs asked ignored (place + 1) (some_holds || holds)
      (unmarked_holds || (holds && not inside.candidate.is_marked)) (each_fails && fails)
  finished_past cs asked ignored place n some_holds unmarked_holds each_fails holds fails old inside past = record {
    holder = holder_after cs asked place inside.candidate some_holds unmarked_holds holds
        inside.candidate.is_marked old.holder old.some inside.is_at
        (λ h j a l e. inside.yes_so_far h j a (before_end inside.candidate.questions j n past l) e) refl;
    some = some_after some_holds unmarked_holds holds inside.candidate.is_marked old.some;
    failing = λ h k d l e. let b = both_true each_fails fails h in
        failing_after cs asked place inside.candidate inside.is_at (inside.no_so_far b.1) (old.failing b.0) k d l e;
    only_marked = λ m h. let w = old.only_marked m h in (
      or_first unmarked_holds (holds && not inside.candidate.is_marked) w.0,
      w.1,
    );
  }

  -- Q

  asking_next-good : (cs : List (Candidate Q)) (s : State I) (p : Progress I Outcome) →
      PastCandidates cs p.asked p.ignored s.candidate s.some_holds s.unmarked_holds s.each_fails →
      p.is_open ≡ true → p.finished ≡ s.candidate →
      (inside : InCandidate cs p.asked s.candidate s.question s.holds s.fails) →
      (o : Option Q) → slice_get inside.candidate.questions s.question ≡ o →
      Good cs (asking_next question_of inside.candidate s o) p (asking_next question_of inside.candidate s o).request
  asking_next-good cs s p past_candidates is_open finished inside None e = record {
    past_candidates = finished_past cs p.asked p.ignored s.candidate s.question s.some_holds s.unmarked_holds
        s.each_fails s.holds s.fails past_candidates inside e;
    mode = ap (λ n. n + 1) finished;
  }
  asking_next-good cs s p past_candidates is_open finished inside (Some a) e = record {
    past_candidates = past_candidates;
    mode = (
      is_open,
      finished,
      record { earlier = s.question; count = refl; inside = inside; asking = a; is_asking = e; same = refl },
    );
  }

  pub asking-good : (cs : List (Candidate Q)) (s : State I) (p : Progress I Outcome) →
      PastCandidates cs p.asked p.ignored s.candidate s.some_holds s.unmarked_holds s.each_fails →
      p.is_open ≡ true → p.finished ≡ s.candidate →
      (inside : InCandidate cs p.asked s.candidate s.question s.holds s.fails) →
      Good cs (asking question_of cs s) p (asking question_of cs s).request
  asking-good cs s p past_candidates is_open finished inside =
      subst (λ o. Good cs (asking_in question_of cs s o) p (asking_in question_of cs s o).request) (sym inside.is_at)
      (asking_next-good cs s p past_candidates is_open finished inside
      (slice_get inside.candidate.questions s.question) refl)

  -- Answers

  yes_only : (r : Outcome) → is_yes r ≡ true → r ≡ Yes
  yes_only Yes e = refl
  yes_only No e = absurd cc
  yes_only Maybe e = absurd cc
  yes_only Overflow e = absurd cc

  no_only : (r : Outcome) → is_no r ≡ true → r ≡ No
  no_only No e = refl
  no_only Yes e = absurd cc
  no_only Maybe e = absurd cc
  no_only Overflow e = absurd cc

  or_cases : (a b : Bool) → (a || b) ≡ true → (a ≡ true) ⊎ (b ≡ true)
  or_cases true b e = inl refl
  or_cases false b e = inr e

  module _ (cs : List (Candidate Q)) (asked : List (Asked I Outcome)) (place : ℕ) (next : Asked I Outcome) where
    SomeNo-more : (c : Candidate Q) → SomeNo asked place c → SomeNo (asked ++ next ∷ []) place c
    SomeNo-more c w = record {
      at = w.at;
      asking = w.asking;
      is_at = w.is_at;
      is_asked = Contains-append_left asked (next ∷ []) (answered w.asking No place) w.is_asked;
    }

    AllYes-more : (c : Candidate Q) (n : ℕ) → AllYes asked place c n → AllYes (asked ++ next ∷ []) place c n
    AllYes-more c n h j a l e = Contains-append_left asked (next ∷ []) (answered a Yes place) (h j a l e)

  PastCandidates-more : (cs : List (Candidate Q)) (asked : List (Asked I Outcome)) (next : Asked I Outcome)
      (ignored : List ℕ) (place : ℕ) (some_holds unmarked_holds each_fails : Bool) →
      PastCandidates cs asked ignored place some_holds unmarked_holds each_fails →
      PastCandidates cs (asked ++ next ∷ []) ignored place some_holds unmarked_holds each_fails
  PastCandidates-more cs asked next ignored place some_holds unmarked_holds each_fails old = record {
    holder = λ h. let w = old.holder h in record {
      place = w.place;
      candidate = w.candidate;
      is_at = w.is_at;
      all_yes = AllYes-more cs asked w.place next w.candidate (length w.candidate.questions) w.all_yes;
      is_unmarked = w.is_unmarked;
    };
    some = old.some;
    failing = λ h k c l e. SomeNo-more cs asked k next c (old.failing h k c l e);
    only_marked = old.only_marked;
  }

  open_candidate-is : (is_open : Bool) (finished place : ℕ) → is_open ≡ true → finished ≡ place
      → cond is_open (Some finished) None ≡ Some place
  open_candidate-is true finished place e f = ap Some f
  open_candidate-is false finished place e f = absurd cc

  asking_at : (items : List Q) (n j : ℕ) (a b : Q) → slice_get items n ≡ Some a
      → slice_get items j ≡ Some b → j ≡ n → a ≡ b
  asking_at items n j a b e f is = let g : slice_get items n ≡ slice_get items j = ap (slice_get items) (sym is) in cc

  both : (a b : Bool) → a ≡ true → b ≡ true → (a && b) ≡ true
  both true b e f = f
  both false b e f = absurd cc

  answered_is : (p : Progress I Outcome) (place : ℕ) (q : Question I) (a : Q) (r : Outcome) → p.is_open ≡ true →
      p.finished ≡ place → q ≡ question_of a →
      record { question = q; answer = r; candidate = open_candidate p } ≡ answered a r place
  answered_is p place q a r is_open finished same =
      let o : open_candidate p ≡ Some place = open_candidate-is p.is_open p.finished place is_open finished in
      ap₂ (λ x y. record { question = x; answer = r; candidate = y }) same o

  yes_with : (asked : List (Asked I Outcome)) (place n : ℕ) (c : Candidate Q) (asking : Q) (r : Outcome) →
      slice_get c.questions n ≡ Some asking → AllYes asked place c n → r ≡ Yes →
      AllYes (asked ++ answered asking r place ∷ []) place c (n + 1)
  yes_with asked place n c asking r is_at old is j a l e =
      elim (eqb_tells j n) [
        | inl w ↦
            let same : asking ≡ a = asking_at c.questions n j asking a is_at e w.1 in
            subst (λ x. Contains (asked ++ answered asking r place ∷ []) x) (ap₂ (λ x y. answered x y place) same is)
            (Contains-push asked (answered asking r place))
        | inr w ↦ let ne : j ≢ n = w.1 in
            Contains-append_left asked (answered asking r place ∷ []) (answered a Yes place) (old j a (omega arith) e)
      ]

  inside_with : (cs : List (Candidate Q)) (asked : List (Asked I Outcome)) (place n : ℕ)
      (holds fails : Bool) (asking : Q) (r : Outcome) →
      (inside : InCandidate cs asked place n holds fails) → slice_get inside.candidate.questions n ≡ Some asking →
      InCandidate cs (asked ++ answered asking r place ∷ []) place (n + 1) (holds && is_yes r) (fails || is_no r)
  inside_with cs asked place n holds fails asking r inside is_asking = record {
    candidate = inside.candidate;
    is_at = inside.is_at;
    yes_so_far = λ h. let b = both_true holds (is_yes r) h in
        yes_with asked place n inside.candidate asking r is_asking (inside.yes_so_far b.0) (yes_only r b.1);
    no_so_far = λ h. elim (or_cases fails (is_no r) h) [
      | inl e ↦ SomeNo-more cs asked place (answered asking r place) inside.candidate (inside.no_so_far e)
      | inr e ↦ record {
        at = n;
        asking = asking;
        is_at = is_asking;
        is_asked = subst (λ x. Contains (asked ++ answered asking r place ∷ []) (answered asking x place)) (no_only r e)
            (Contains-push asked (answered asking r place));
      }
    ];
  }

  answer-good : (cs : List (Candidate Q)) (s : State I) (p : Progress I Outcome) (kind : PathKind) (goal : I)
      (r : Outcome) → Good cs s p (Some (Evaluate kind goal)) →
      Good cs (asking question_of cs (with_answer s r)) (progress_with p (Some (Evaluate kind goal)) (Answer r))
      (asking question_of cs (with_answer s r)).request
  answer-good cs s p kind goal r good =
      let at = good.mode.2 in
      let new : Asked I Outcome =
      record { question = record { kind = kind; goal = goal }; answer = r; candidate = open_candidate p } in
      let is : new ≡ answered at.asking r s.candidate =
      answered_is p s.candidate (record { kind = kind; goal = goal }) at.asking r good.mode.0 good.mode.1 at.same in
      asking-good cs (with_answer s r) (progress_with p (Some (Evaluate kind goal)) (Answer r))
      (PastCandidates-more cs p.asked new p.ignored s.candidate s.some_holds
      s.unmarked_holds s.each_fails good.past_candidates)
      good.mode.0 good.mode.1
      (subst (λ x. InCandidate cs (p.asked ++ x ∷ []) s.candidate s.question (s.holds && is_yes r) (s.fails || is_no r))
      (sym is)
      (subst (λ n. InCandidate cs (p.asked ++ answered at.asking r s.candidate ∷ []) s.candidate n
      (s.holds && is_yes r) (s.fails || is_no r)) at.count
      (inside_with cs p.asked s.candidate at.earlier s.holds s.fails at.asking r at.inside at.is_asking)))

  -- Whole runs

  ignored_more : (cs : List (Candidate Q)) (ignored : List ℕ) (unmarked_holds : Bool) (n k : ℕ) →
      unmarked_holds ≡ true → IsMarkedAt cs n →
      ((m : ℕ) → is_ignored ignored m ≡ true → (unmarked_holds ≡ true) × IsMarkedAt cs m) →
      is_ignored (n ∷ ignored) k ≡ true → (unmarked_holds ≡ true) × IsMarkedAt cs k
  ignored_more cs ignored unmarked_holds n k holds marked old h =
      elim (eqb_tells n k) [
        | inl w ↦ (holds, subst (IsMarkedAt cs) w.1 marked)
        | inr w ↦ old k (rw w.0 at h)
      ]

  step-good : (cs : List (Candidate Q)) (s : State I) (p : Progress I Outcome) (q : Option (Request I Outcome))
      (r : Reply Outcome) → Fits q r → Good cs s p q →
      Good cs (state_with question_of cs s q r) (progress_with p q r) (state_with question_of cs s q r).request
  step-good cs s p None Begin h good =
      entering-good cs s p good.past_candidates good.mode (slice_get cs s.candidate) refl
  step-good cs s p (Some EnterCandidate) Noted h good =
      asking-good cs s (record p { is_open = true }) good.past_candidates refl good.mode.0 good.mode.1
  step-good cs s p (Some (Evaluate kind goal)) (Answer r) h good = answer-good cs s p kind goal r good
  step-good cs s p (Some FinishCandidate) Noted h good =
      entering-good cs s (record p { is_open = false; finished = p.finished + 1 }) good.past_candidates
      good.mode (slice_get cs s.candidate) refl
  step-good cs s p (Some (Ignore n)) Noted h good =
      ignoring-good cs s (record p { ignored = n ∷ p.ignored })
      (record {
        holder = good.past_candidates.holder;
        some = good.past_candidates.some;
        failing = good.past_candidates.failing;
        only_marked = λ k.
            ignored_more cs p.ignored s.unmarked_holds n k good.mode.1 good.mode.2 good.past_candidates.only_marked;
      })
      good.mode.0
  step-good cs s p _ _ h good = absurd h

  run-good : (cs : List (Candidate Q)) (replies : List (Reply Outcome)) → IsFitting (script_of question_of cs) replies
      → Good cs (state_after question_of cs replies) (progress_after (script_of question_of cs) replies)
      (state_after question_of cs replies).request
  run-good cs [] h = record {
    past_candidates = record {
      holder = λ e. absurd cc;
      some = λ e. absurd cc;
      failing = λ _ k c l. absurd (omega arith);
      only_marked = λ n e. absurd cc;
    };
    mode = refl;
  }
  run-good cs (r ∷ earlier) h =
      let s = state_after question_of cs earlier in
      let is = request_after-is cs earlier h.1 in
      subst (λ q. Good cs (state_with question_of cs s s.request r)
      (progress_with (progress_after (script_of question_of cs) earlier) q r)
      (state_with question_of cs s s.request r).request) (sym is)
      (step-good cs s (progress_after (script_of question_of cs) earlier) s.request r
      (subst (λ q. Fits q r) is h.0) (run-good cs earlier h.1))

  -- a run that has ended
  end-good : (cs : List (Candidate Q)) (replies : List (Reply Outcome)) (r : Outcome)
      → EndsIn (script_of question_of cs) replies r
      → Good cs (state_after question_of cs replies) (progress_after (script_of question_of cs) replies) (Some (Done r))
  end-good cs replies r ends =
      subst (Good cs (state_after question_of cs replies) (progress_after (script_of question_of cs) replies))
      (sym (request_after-is cs replies ends.is_fitting) ∙ ends.is_done) (run-good cs replies ends.is_fitting)

  yes_flags : (some_holds each_fails : Bool)
      → is_yes (cond some_holds Yes (cond each_fails No Maybe)) ≡ true → some_holds ≡ true
  yes_flags true each_fails e = refl
  yes_flags false true e = absurd cc
  yes_flags false false e = absurd cc

  no_flags : (some_holds each_fails : Bool) → is_no (cond some_holds Yes (cond each_fails No Maybe)) ≡ true
      → (some_holds ≡ false) × (each_fails ≡ true)
  no_flags true each_fails e = absurd cc
  no_flags false true e = (refl, refl)
  no_flags false false e = absurd cc

  not_ignored : (b : Bool) → (b ≡ true → ⊥) → not b ≡ true
  not_ignored true h = absurd (h refl)
  not_ignored false h = refl

  counts_kept : (test : Outcome → Bool) (p : Progress I Outcome) (a : Q) (r : Outcome) (place : ℕ) → test r ≡ true →
      (is_ignored p.ignored place ≡ true → ⊥) →
      Contains p.asked (answered a r place) → Contains (questions_answered test p) (question_of a)
  counts_kept test p a r place passes kept has =
      Contains-mapped (λ x. x.question)
      (filter (λ x. test x.answer && is_counted p.ignored x.candidate) p.asked) (answered a r place)
      (Contains-filtered (λ x. test x.answer && is_counted p.ignored x.candidate) p.asked (answered a r place) has
      (both (test r) (not (is_ignored p.ignored place)) passes (not_ignored (is_ignored p.ignored place) kept)))

  marked_apart : (cs : List (Candidate Q)) (place : ℕ) (c : Candidate Q) → slice_get cs place ≡ Some c
      → c.is_marked ≡ false → IsMarkedAt cs place → ⊥
  marked_apart cs place c e is m = let same : c ≡ m.candidate = same_at cs place place c m.candidate e m.is_at refl in
      let f : c.is_marked ≡ m.candidate.is_marked = ap (λ d. d.is_marked) same in let t = m.is_marked in cc

  -- a result of yes rests on the questions that were answered yes
  pub yes_is_proved : (cs : List (Candidate Q)) (replies : List (Reply Outcome)) (r : Outcome) →
      EndsIn (script_of question_of cs) replies r → is_yes r ≡ true →
      Proves question_of cs (questions_answered is_yes (progress_after (script_of question_of cs) replies))
  yes_is_proved cs replies r ends is =
      let s = state_after question_of cs replies in
      let p = progress_after (script_of question_of cs) replies in
      let good = end-good cs replies r ends in
      let w = good.past_candidates.holder (yes_flags s.some_holds s.each_fails (ap is_yes (sym good.mode.1) ∙ is)) in
      record {
        candidate = w.candidate;
        is_candidate = Contains-from_slice_get cs w.place w.candidate w.is_at;
        within = λ q has.
            let a = Contains-map question_of w.candidate.questions q has in
            let at = slice_get-from_Contains w.candidate.questions a.0 a.1 in
            subst (Contains (questions_answered is_yes p)) a.2
            (counts_kept is_yes p a.0 Yes w.place refl
            (λ e. let m = good.past_candidates.only_marked w.place e in
            marked_apart cs w.place w.candidate w.is_at (w.is_unmarked m.0) m.1)
            (w.all_yes a.1.0 a.0 a.1.1 at));
      }

  -- a result of no rests on the questions that were answered no
  pub no_is_refuted : (cs : List (Candidate Q)) (replies : List (Reply Outcome)) (r : Outcome) →
      EndsIn (script_of question_of cs) replies r → is_no r ≡ true →
      Refutes question_of cs (questions_answered is_no (progress_after (script_of question_of cs) replies))
  no_is_refuted cs replies r ends is =
      let s = state_after question_of cs replies in
      let p = progress_after (script_of question_of cs) replies in
      let good = end-good cs replies r ends in
      let flags = no_flags s.some_holds s.each_fails (ap is_no (sym good.mode.1) ∙ is) in
      λ c has.
      let at = slice_get-from_Contains cs c has in
      let w = good.past_candidates.failing flags.1 has.0 c (before_end cs has.0 s.candidate good.mode.0 has.1) at in (
        question_of w.asking,
        Contains-mapped question_of c.questions w.asking (Contains-from_slice_get c.questions w.at w.asking w.is_at),
        counts_kept is_no p w.asking No has.0 refl
            (λ e. let m = good.past_candidates.only_marked has.0 e in
            let t : s.some_holds ≡ true = good.past_candidates.some m.0 in let f = flags.0 in cc)
            w.is_asked,
      )
