-- What the results of a frame rest on. The proofs stand here, since the members of an impl name
-- nothing outside of `specs`.
use Rattle.std.specs.Prelude.{◌≡◌, ℕ, ◌+◌, ◌<◌, Bool, true, false, ◌&&◌, if◌then◌else◌, List, [], ◌∷◌, ◌++◌, filter}
use Rattle.std.specs.Prelude.{slice_get, Contains, Option, Some, None, refl}
use Rattle.std.proofs.Common.{ap, sym, subst, ◌∙◌, arith, inl, inr, ◌≢◌}
use Rattle.std.proofs.lemmas.Bool.Decides.{eqb_tells}
use Rattle.std.proofs.lemmas.List.Elements.{Contains-append_left, Contains-push}
use Rattle.search_context.proofs.Graphs.{Contains-map}
use Rattle.candidate_lists.specs.Laws.Members.{Contains-from_slice_get, slice_get-from_Contains, Contains-mapped}
use Rattle.candidate_lists.specs.Laws.Members.{Contains-filtered, before_end}
use Rattle.early_scripts.specs.Below.{Evaluate, Done, Reply, Begin, Answer, Noted, Outcome, Yes, No, Maybe, Overflow}
use Rattle.early_scripts.specs.Below.{is_yes, is_no, Goal, Asking, Candidate, Rules, question_of, candidates_of, Proves}
use Rattle.early_scripts.specs.Below.{Refutes, Asked, EndsIn, Fits, IsFitting, Progress, no_progress, progress_with}
use Rattle.early_scripts.specs.Below.{progress_after, questions_answered, is_counted, request_after}
use Rattle.early_scripts.specs.declared.early.State.{State}
use Rattle.early_scripts.specs.Early.{moved, moved_from, moved_in, with_reply, request_in, request_at, request_of}
use Rattle.early_scripts.specs.Early.{state_after, script_of}

-- a question is asked in this state, and the reply answers it
pub record IsAnswerTo (cs : List Candidate) (s : State) (x : Reply Outcome) : Type 0 where
  pub candidate : Candidate
  pub is_at : slice_get cs s.candidate ≡ Some candidate
  pub asking : Asking
  pub is_asking : slice_get candidate.questions s.question ≡ Some asking
  pub outcome : Outcome
  pub is_reply : x ≡ Answer outcome

none_to_done : (r : Outcome) (x : Reply Outcome) → Fits {I = Goal} (Some (Done r)) x → {X : Type 0} → X
none_to_done r Begin h = absurd h
none_to_done r (Answer s) h = absurd h
none_to_done r Noted h = absurd h

answered_from : (cs : List Candidate) (s : State) (x : Reply Outcome) (c : Candidate)
    → slice_get cs s.candidate ≡ Some c → (o : Option Asking) → slice_get c.questions s.question ≡ o
    → Fits (Some (request_in o)) x → IsAnswerTo cs s x
answered_from cs s x c e None f h = none_to_done Yes x h
answered_from cs s Begin c e (Some a) f h = absurd h
answered_from cs s (Answer r) c e (Some a) f h =
    record { candidate = c; is_at = e; asking = a; is_asking = f; outcome = r; is_reply = refl }
answered_from cs s Noted c e (Some a) f h = absurd h

answered_in : (cs : List Candidate) (s : State) (x : Reply Outcome) (o : Option Candidate)
    → slice_get cs s.candidate ≡ o → Fits (Some (request_at s.each_fails o s.question)) x → IsAnswerTo cs s x
answered_in cs s x None e h = none_to_done (if s.each_fails then No else Maybe) x h
answered_in cs s x (Some c) e h = answered_from cs s x c e (slice_get c.questions s.question) refl h

-- a reply that fits answers a question
pub is_answered : (cs : List Candidate) (s : State) (x : Reply Outcome)
    → Fits (Some (request_of cs s)) x → IsAnswerTo cs s x
is_answered cs s x h = answered_in cs s x (slice_get cs s.candidate) refl h

-- which was asked, and moves the frame
pub asks : (cs : List Candidate) (s : State) (x : Reply Outcome) (at : IsAnswerTo cs s x)
    → request_of cs s ≡ Evaluate at.asking.kind at.asking.goal
asks cs s x at = ap (λ o. request_at s.each_fails o s.question) at.is_at ∙ ap request_in at.is_asking

pub moves : (cs : List Candidate) (s : State) (x : Reply Outcome) (at : IsAnswerTo cs s x)
    → with_reply cs s x ≡ moved s at.outcome
moves cs s x at = ap (with_reply cs s) at.is_reply ∙ ap (λ o. moved_in s o at.outcome) at.is_at
    ∙ ap (λ o. moved_from s o at.outcome) at.is_asking

-- a question that was answered outside candidates
abbrev pub answered : Asking → Outcome → Asked Goal Outcome
answered a r = record { question = question_of a; answer = r; candidate = None }

-- one of the candidate's questions was answered no
pub record HasSomeNo (asked : List (Asked Goal Outcome)) (c : Candidate) : Type 0 where
  pub at : ℕ
  pub asking : Asking
  pub is_at : slice_get c.questions at ≡ Some asking
  pub is_asked : Contains asked (answered asking No)

-- what is known of a frame in this state
pub record KnowsAnswers (cs : List Candidate) (p : Progress Goal Outcome) (s : State) : Type 0 where
  pub closed : p.is_open ≡ false
  pub yes_so_far : (c : Candidate) → slice_get cs s.candidate ≡ Some c → (j : ℕ) (a : Asking) → j < s.question
      → slice_get c.questions j ≡ Some a → Contains p.asked (answered a Yes)
  pub failing : s.each_fails ≡ true → (k : ℕ) (c : Candidate) → k < s.candidate
      → slice_get cs k ≡ Some c → HasSomeNo p.asked c

-- one more question was answered
abbrev with_asked : Progress Goal Outcome → Asking → Outcome → Progress Goal Outcome
with_asked p a r = progress_with p (Some (Evaluate a.kind a.goal)) (Answer r)

asked_now : (p : Progress Goal Outcome) (a : Asking) (r : Outcome) → p.is_open ≡ false
    → Contains (with_asked p a r).asked (answered a r)
asked_now p a r h =
    subst (λ b. Contains (p.asked ++ record {
      question = question_of a;
      answer = r;
      candidate = (if b then Some p.finished else None);
    } ∷ []) (answered a r)) (sym h) (Contains-push p.asked (answered a r))

still_asked : (p : Progress Goal Outcome) (a : Asking) (r : Outcome) (x : Asked Goal Outcome) → Contains p.asked x
    → Contains (with_asked p a r).asked x
still_asked p a r x h = Contains-append_left p.asked _ x h

still_no : (p : Progress Goal Outcome) (a : Asking) (r : Outcome) (c : Candidate) → HasSomeNo p.asked c
    → HasSomeNo (with_asked p a r).asked c
still_no p a r c n = record {
  at = n.at;
  asking = n.asking;
  is_at = n.is_at;
  is_asked = still_asked p a r (answered n.asking No) n.is_asked;
}

same_at : {A : Type 0} (xs : List A) (i j : ℕ) (x y : A) → i ≡ j
    → slice_get xs i ≡ Some x → slice_get xs j ≡ Some y → x ≡ y
same_at xs i j x y e h k = let g : slice_get xs i ≡ slice_get xs j = ap (slice_get xs) e in cc

module _ (cs : List Candidate) (p : Progress Goal Outcome) (s : State) (c : Candidate)
    (is_at : slice_get cs s.candidate ≡ Some c) (a : Asking)
    (is_asking : slice_get c.questions s.question ≡ Some a) (old : KnowsAnswers cs p s) where
  with_yes : (d : Candidate) → slice_get cs s.candidate ≡ Some d → (j : ℕ) (b : Asking) → j < s.question + 1
      → slice_get d.questions j ≡ Some b → Contains (with_asked p a Yes).asked (answered b Yes)
  with_yes d e j b l f =
      elim (eqb_tells j s.question) [
        | inl w ↦
            let same : d ≡ c = same_at cs s.candidate s.candidate d c refl e is_at in
            let is : b ≡ a =
            same_at c.questions j s.question b a w.1 (ap (λ z. slice_get z.questions j) (sym same) ∙ f) is_asking in
            subst (λ z. Contains (with_asked p a Yes).asked (answered z Yes)) (sym is) (asked_now p a Yes old.closed)
        | inr w ↦ let ne : j ≢ s.question = w.1 in
            still_asked p a Yes (answered b Yes) (old.yes_so_far d e j b (omega arith) f)
      ]

  with_no : s.each_fails ≡ true → (k : ℕ) (d : Candidate) → k < s.candidate + 1 → slice_get cs k ≡ Some d
      → HasSomeNo (with_asked p a No).asked d
  with_no fails k d l e =
      elim (eqb_tells k s.candidate) [
        | inl w ↦
            let same : d ≡ c = same_at cs k s.candidate d c w.1 e is_at in
            subst (HasSomeNo (with_asked p a No).asked) (sym same)
            (record { at = s.question; asking = a; is_at = is_asking; is_asked = asked_now p a No old.closed })
        | inr w ↦ let ne : k ≢ s.candidate = w.1 in still_no p a No d (old.failing fails k d (omega arith) e)
      ]

  -- what is known after one more answer
  told_with : (r : Outcome) → KnowsAnswers cs (with_asked p a r) (moved s r)
  told_with Yes = record {
    closed = old.closed;
    yes_so_far = with_yes;
    failing = λ fails k d l e. still_no p a Yes d (old.failing fails k d l e);
  }
  told_with No = record { closed = old.closed; yes_so_far = λ d e j b l f. absurd (omega arith); failing = with_no }
  told_with Maybe = record {
    closed = old.closed;
    yes_so_far = λ d e j b l f. absurd (omega arith);
    failing = λ fails k d l e. absurd cc;
  }
  told_with Overflow = record {
    closed = old.closed;
    yes_so_far = λ d e j b l f. absurd (omega arith);
    failing = λ fails k d l e. absurd cc;
  }

module _ (cs : List Candidate) where
  abbrev progress : List (Reply Outcome) → Progress Goal Outcome
  progress replies = progress_after (script_of cs) replies

  told_next : (p : Progress Goal Outcome) (s : State) (x : Reply Outcome) → KnowsAnswers cs p s → IsAnswerTo cs s x
      → KnowsAnswers cs (progress_with p (Some (request_of cs s)) x) (with_reply cs s x)
  told_next p s x old at =
      subst (KnowsAnswers cs (progress_with p (Some (request_of cs s)) x)) (sym (moves cs s x at))
      (subst (λ q. KnowsAnswers cs (progress_with p (Some q) x) (moved s at.outcome)) (sym (asks cs s x at))
      (subst (λ y. KnowsAnswers cs (progress_with p (Some (Evaluate at.asking.kind at.asking.goal)) y)
      (moved s at.outcome)) (sym at.is_reply)
      (told_with cs p s at.candidate at.is_at at.asking at.is_asking old at.outcome)))

  at_first : (s : State) → s.question ≡ 0 → s.candidate ≡ 0 → KnowsAnswers cs no_progress s
  at_first s question candidate = record {
    closed = refl;
    yes_so_far = λ c e j a l f. absurd (omega arith);
    failing = λ fails k c l e. absurd (omega arith);
  }

  told : (replies : List (Reply Outcome)) → IsFitting (script_of cs) replies
      → KnowsAnswers cs (progress replies) (state_after cs replies)
  told [] h = at_first (state_after cs []) refl refl
  told (Begin ∷ []) h = at_first (state_after cs (Begin ∷ [])) refl refl
  told (Answer r ∷ []) h = absurd h.0
  told (Noted ∷ []) h = absurd h.0
  told (x ∷ y ∷ earlier) h =
      let s = state_after cs (y ∷ earlier) in
      told_next (progress (y ∷ earlier)) s x (told (y ∷ earlier) h.1) (is_answered cs s x h.0)

  counts : (test : Outcome → Bool) (p : Progress Goal Outcome) (a : Asking) (r : Outcome) → test r ≡ true
      → Contains p.asked (answered a r) → Contains (questions_answered test p) (question_of a)
  counts test p a r passes has =
      Contains-mapped (λ x. x.question)
      (filter (λ x. test x.answer && is_counted p.ignored x.candidate) p.asked) (answered a r)
      (Contains-filtered (λ x. test x.answer && is_counted p.ignored x.candidate) p.asked
      (answered a r) has (passes_both (test r) passes))
    where
      passes_both : (b : Bool) → b ≡ true → (b && true) ≡ true
      passes_both b e = rw e refl

  -- a frame that is done: its candidate holds, or none is left
  data IsEarlyEnd (s : State) (r : Outcome) : Type 0 where
    Holds : r ≡ Yes → (c : Candidate) → slice_get cs s.candidate ≡ Some c
        → slice_get c.questions s.question ≡ None → IsEarlyEnd s r
    NoneLeft : r ≡ (if s.each_fails then No else Maybe) → slice_get cs s.candidate ≡ None → IsEarlyEnd s r

  end_from : (s : State) (r : Outcome) (c : Candidate) → slice_get cs s.candidate ≡ Some c → (o : Option Asking)
      → slice_get c.questions s.question ≡ o → Some (request_in o) ≡ Some (Done r) → IsEarlyEnd s r
  end_from s r c e None f d = let same : r ≡ Yes = cc in Holds same c e f
  end_from s r c e (Some a) f d = absurd cc

  end_in : (s : State) (r : Outcome) (o : Option Candidate) → slice_get cs s.candidate ≡ o
      → Some (request_at s.each_fails o s.question) ≡ Some (Done r) → IsEarlyEnd s r
  end_in s r None e d = let same : r ≡ (if s.each_fails then No else Maybe) = cc in NoneLeft same e
  end_in s r (Some c) e d = end_from s r c e (slice_get c.questions s.question) refl d

  end_of : (replies : List (Reply Outcome)) (r : Outcome) → request_after (script_of cs) replies ≡ Some (Done r)
      → IsEarlyEnd (state_after cs replies) r
  end_of [] r d = absurd cc
  end_of (x ∷ earlier) r d = let s = state_after cs (x ∷ earlier) in end_in s r (slice_get cs s.candidate) refl d

  no_yes : (b : Bool) → is_yes (if b then No else Maybe) ≡ true → {X : Type 0} → X
  no_yes true e = absurd cc
  no_yes false e = absurd cc

  each : (b : Bool) → is_no (if b then No else Maybe) ≡ true → b ≡ true
  each true e = refl
  each false e = absurd cc

module _ (rules : Rules) (goal : Goal) where
  abbrev own : List Candidate
  own = candidates_of rules goal

  proved_at : (p : Progress Goal Outcome) (s : State) (r : Outcome) → KnowsAnswers own p s → IsEarlyEnd own s r
      → is_yes r ≡ true → Proves rules goal (questions_answered is_yes p)
  proved_at p s r t (Holds e c is_at none) is = record {
    candidate = c;
    is_candidate = Contains-from_slice_get own s.candidate c is_at;
    within = λ q has.
        let a = Contains-map question_of c.questions q has in
        let at = slice_get-from_Contains c.questions a.0 a.1 in
        subst (Contains (questions_answered is_yes p)) a.2
        (counts own is_yes p a.0 Yes refl
        (t.yes_so_far c is_at a.1.0 a.0 (before_end c.questions a.1.0 s.question none a.1.1) at));
  }
  proved_at p s r t (NoneLeft e none) is = no_yes own s.each_fails (ap is_yes (sym e) ∙ is)

  refuted_at : (p : Progress Goal Outcome) (s : State) (r : Outcome) → KnowsAnswers own p s → IsEarlyEnd own s r
      → is_no r ≡ true → Refutes rules goal (questions_answered is_no p)
  refuted_at p s r t (Holds e c is_at none) is = let f : is_no r ≡ false = ap is_no e in absurd cc
  refuted_at p s r t (NoneLeft e none) is = λ c has.
      let at = slice_get-from_Contains own c has in
      let n = t.failing (each own s.each_fails (ap is_no (sym e) ∙ is)) has.0 c
      (before_end own has.0 s.candidate none has.1) at in (
        question_of n.asking,
        Contains-mapped question_of c.questions n.asking (Contains-from_slice_get c.questions n.at n.asking n.is_at),
        counts own is_no p n.asking No refl n.is_asked,
      )

  -- a result of yes rests on the questions that were answered yes
  pub yes_is_proved : (replies : List (Reply Outcome)) (r : Outcome) → EndsIn (script_of own) replies r
      → is_yes r ≡ true → Proves rules goal (questions_answered is_yes (progress_after (script_of own) replies))
  yes_is_proved replies r ends is = proved_at (progress_after (script_of own) replies) (state_after own replies) r
      (told own replies ends.is_fitting) (end_of own replies r ends.is_done) is

  -- a result of no rests on the questions that were answered no
  pub no_is_refuted : (replies : List (Reply Outcome)) (r : Outcome) → EndsIn (script_of own) replies r → is_no r ≡ true
      → Refutes rules goal (questions_answered is_no (progress_after (script_of own) replies))
  no_is_refuted replies r ends is = refuted_at (progress_after (script_of own) replies) (state_after own replies) r
      (told own replies ends.is_fitting) (end_of own replies r ends.is_done) is
