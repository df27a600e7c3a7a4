-- Each step of a frame leaves fewer.
use Rattle.std.proofs.Common.{◌≡◌, ℕ, ◌+◌, ◌-◌, ◌<◌, ◌≤◌, Bool, true, false, cond, ◌&&◌, nat_le, List, [], ◌∷◌, length}
use Rattle.std.proofs.Common.{drop, sum_by, slice_get, get_or, Option, Some, None, refl, sym, ap, subst, ◌∙◌, arith}
use Rattle.std.proofs.lemmas.Option.{slice_get_within, get_or_from_slice_get}
use Rattle.std.proofs.lemmas.List.Sums.{sum_by-take-drop, sum_by-drop_more}
use Rattle.std.proofs.lemmas.Bool.Decides.{nat_tests}
use Rattle.candidate_lists.specs.Below.{Request, Evaluate, EnterCandidate, FinishCandidate, Ignore, Reply, Begin}
use Rattle.candidate_lists.specs.Below.{Answer, Noted, Fits, IsFitting, Outcome, Question}
use Rattle.candidate_lists.specs.Candidate.{Candidate}
use Rattle.candidate_lists.specs.Frame.{asking_in, asking_next, entering_next, ignoring, marked_from, questions_left}
use Rattle.candidate_lists.specs.Frame.{script_of, State, state_after, state_with, steps_left, steps_of}
use Rattle.candidate_lists.specs.Frame.{with_answer, with_ignored}
use Rattle.candidate_lists.specs.Laws.Runs.{request_after-is}
use Rattle.candidate_lists.specs.Standing.{frame_left, Stands}
use Rattle.candidate_lists.specs.declared.frame.CandidateFrame.{CandidateFrame}

module _ {Q I : Type 0} (question_of : Q → Question I) where
  marked_from-cons : (b : Bool) (at : ℕ) (cs : List (Candidate Q)) (from n : ℕ) → (nat_le from at ≡ false → b ≡ false) →
      (marked_from (at + 1) cs from ≡ Some n → (n < at + 1 + length cs) × (from ≤ n)) →
      cond b (Some at) (marked_from (at + 1) cs from) ≡ Some n → (n < at + 1 + length cs) × (from ≤ n)
  marked_from-cons true at cs from n test rest e = let same : at ≡ n = cc in (omega arith, grind (arith, nat_tests))
  marked_from-cons false at cs from n test rest e = rest e

  and_false : (a b : Bool) → a ≡ false → (a && b) ≡ false
  and_false a b e = rw e (λ i. false)

  -- what is found is in the list, and not before `from`
  pub marked_from-within : (at : ℕ) (cs : List (Candidate Q)) (from n : ℕ)
      → marked_from at cs from ≡ Some n → (n < at + length cs) × (from ≤ n)
  marked_from-within at [] from n e = absurd cc
  marked_from-within at (c ∷ cs) from n e =
      let w = marked_from-cons (nat_le from at && c.is_marked) at cs from n (and_false (nat_le from at) c.is_marked)
      (marked_from-within (at + 1) cs from n) e in
      (omega (arith, w.0), w.1)

  -- how many steps are left after the request that the state has made
  abbrev pub after : List (Candidate Q) → State I → ℕ
  after cs s = steps_left cs s s.request

  with_ignored-after : (cs : List (Candidate Q)) (s : State I) (o : Option ℕ)
      → ((n : ℕ) → o ≡ Some n → (n < length cs) × (s.next_ignored ≤ n))
      → after cs (with_ignored s o) < length cs - s.next_ignored + 1
  with_ignored-after cs s None h = omega arith
  with_ignored-after cs s (Some n) h = let w = h n refl in omega (arith, w.0, w.1)

  found : (cs : List (Candidate Q)) (s : State I) (b : Bool) (n : ℕ)
      → cond b (marked_from 0 cs s.next_ignored) None ≡ Some n → (n < length cs) × (s.next_ignored ≤ n)
  found cs s true n e = let w = marked_from-within 0 cs s.next_ignored n e in (omega (arith, w.0), w.1)
  found cs s false n e = absurd cc

  ignoring-after : (cs : List (Candidate Q)) (s : State I) → after cs (ignoring cs s) < length cs - s.next_ignored + 1
  ignoring-after cs s = with_ignored-after cs s
      (cond s.unmarked_holds (marked_from 0 cs s.next_ignored) None) (found cs s s.unmarked_holds)

  rest_of : (cs : List (Candidate Q)) (i : ℕ) (c : Candidate Q) → slice_get cs i ≡ Some c
      → sum_by steps_of (drop i cs) ≡ length c.questions + 3 + sum_by steps_of (drop (i + 1) cs)
  rest_of cs i c e =
      let l = slice_get_within cs i c e in
      let at : get_or cs i c ≡ c = get_or_from_slice_get cs i c c e in
      sum_by-drop_more steps_of cs i c l ∙ ap (λ d. length d.questions + 3 + sum_by steps_of (drop (i + 1) cs)) at

  entering-after : (cs : List (Candidate Q)) (s : State I) (o : Option (Candidate Q)) → slice_get cs s.candidate ≡ o
      → after cs (entering_next cs s o) < sum_by steps_of (drop s.candidate cs) + length cs + 2
  entering-after cs s None e = let h = ignoring-after cs s in omega arith
  entering-after cs s (Some c) e = let h = rest_of cs s.candidate c e in rw e (omega arith)

  asking_next-after : (cs : List (Candidate Q)) (s : State I) (c : Candidate Q) → slice_get cs s.candidate ≡ Some c →
      (o : Option Q) → slice_get c.questions s.question ≡ o →
      after cs (asking_next question_of c s o)
      < length c.questions - s.question + sum_by steps_of (drop (s.candidate + 1) cs) + length cs + 3
  asking_next-after cs s c e None f = omega arith
  asking_next-after cs s c e (Some a) f =
      let l : s.question < length c.questions = slice_get_within c.questions s.question a f in rw e (omega arith)

  asking-after : (cs : List (Candidate Q)) (s : State I) (o : Option (Candidate Q)) → slice_get cs s.candidate ≡ o →
      after cs (asking_in question_of cs s o)
      < questions_left o s.question + sum_by steps_of (drop (s.candidate + 1) cs) + length cs + 3
  asking-after cs s None e = let h = ignoring-after cs s in omega arith
  asking-after cs s (Some c) e = asking_next-after cs s c e (slice_get c.questions s.question) refl

  questions_left-le : (o : Option (Candidate Q)) (n : ℕ) → questions_left o n ≤ questions_left o 0
  questions_left-le None n = omega arith
  questions_left-le (Some c) n = omega arith

  drop-le : (cs : List (Candidate Q)) (i : ℕ) → sum_by steps_of (drop i cs) ≤ sum_by steps_of cs
  drop-le cs i = omega (arith, sum_by-take-drop steps_of cs i)

  -- a step leaves fewer
  pub falls : (cs : List (Candidate Q)) (s : State I) (q : Option (Request I Outcome)) (r : Reply Outcome) → Fits q r
      → after cs (state_with question_of cs s q r) < steps_left cs s q
  falls cs s None Begin h =
      let e = entering-after cs s (slice_get cs s.candidate) refl in let d = drop-le cs s.candidate in omega arith
  falls cs s (Some EnterCandidate) Noted h =
      let e = asking-after cs s (slice_get cs s.candidate) refl in
      let d = questions_left-le (slice_get cs s.candidate) s.question in omega arith
  falls cs s (Some (Evaluate kind goal)) (Answer r) h =
      asking-after cs (with_answer s r) (slice_get cs s.candidate) refl
  falls cs s (Some FinishCandidate) Noted h = entering-after cs s (slice_get cs s.candidate) refl
  falls cs s (Some (Ignore n)) Noted h = ignoring-after cs s
  falls cs s _ _ h = absurd h

  -- the reply fits the request that the state has made
  fits_state : (cs : List (Candidate Q)) (replies : List (Reply Outcome)) (reply : Reply Outcome) (s : State I)
      → s ≡ state_after question_of cs replies
      → IsFitting (script_of question_of cs) (reply ∷ replies) → Fits s.request reply
  fits_state cs replies reply s is h =
      subst (λ q. Fits q reply) (request_after-is question_of cs replies h.1 ∙ sym (ap (λ t. t.request) is)) h.0

  -- so does a step of a frame
  pub frame_falls : {T : Type 0} (candidates_of : T → I → List (Candidate Q)) (old new : CandidateFrame T I) (lists : T)
      (goal : I) (replies : List (Reply Outcome)) (reply : Reply Outcome) →
      Stands question_of candidates_of old lists goal replies →
      IsFitting (script_of question_of (candidates_of lists goal)) (reply ∷ replies) →
      new.lists ≡ old.lists → new.goal ≡ old.goal →
      new.state ≡ state_with question_of (candidates_of old.lists old.goal) old.state old.state.request reply →
      frame_left candidates_of new < frame_left candidates_of old
  frame_falls candidates_of old new lists goal replies reply stood fitting same_lists same_goal is =
      let fits = fits_state (candidates_of lists goal) replies reply old.state stood.same_state fitting in
      rw (is, same_lists, same_goal) (falls (candidates_of old.lists old.goal) old.state old.state.request reply fits)
