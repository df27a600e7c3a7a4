-- A goal's script, answered as a truth of questions says: it comes to yes or no, and to what it rests on.
use Rattle.std.proofs.Common.{◌≡◌, ℕ, zero, suc, ◌+◌, ◌<◌, Bool, true, false, not, ◌&&◌, ◌⊎◌, inl, inr, List, [], ◌∷◌}
use Rattle.std.proofs.Common.{◌++◌, length, filter, Contains, Option, None, Some, refl, sym, ◌∙◌, subst, arith}
use Rattle.std.specs.Bool.{⊤}
use Rattle.std.proofs.lemmas.Bool.{and_parts, cases_Bool, not-true}
use Rattle.std.proofs.lemmas.List.Elements.{Contains-append_cases}
use Rattle.search_context.proofs.Graphs.{Contains-map, filtered_member}
use Rattle.list_lemmas.proofs.Members.{first_or_later}
use Rattle.determined.specs.Below.{AreDecided, Answer, Asked, Begin, Done, EndsIn, EnterCandidate, Evaluate}
use Rattle.determined.specs.Below.{FinishCandidate, Ignore, IsDefinite, IsFitting, IsInOrder, IsOrderly, IsReplyTo}
use Rattle.determined.specs.Below.{Noted, PathKind, Progress, Question, Reply, Request, Verdicts, is_counted}
use Rattle.determined.specs.Below.{IsDecidedReply, open_candidate, progress_after, progress_with}
use Rattle.determined.specs.Below.{questions_answered, request_after}
use Rattle.determined.specs.Closed.{IsDoneAfter}

in_order : {I R : Type 0} (script : List (Reply R) → Request I R) → IsOrderly script → (replies : List (Reply R))
    → IsFitting script replies → IsInOrder script replies
in_order script orderly [] fits = tt
in_order script orderly (r ∷ earlier) fits = (orderly (r ∷ earlier) fits, in_order script orderly earlier fits.1)

yes_or_no : {R : Type 0} (says : Verdicts R) (r : R) → IsDefinite says r
    → (says.is_yes r ≡ true) ⊎ (says.is_no r ≡ true)
yes_or_no says r definite =
    elim (cases_Bool (says.is_yes r)) [
      | inl e ↦ inl e
      | inr e ↦ elim (cases_Bool (says.is_no r)) [ inl f ↦ inr f | inr f ↦ absurd (definite (rw (e, f) refl)) ]
    ]

definite_yes : {R : Type 0} (says : Verdicts R) (r : R) → says.is_yes r ≡ true → IsDefinite says r
definite_yes says r e = rw e (λ h. cc)

definite_no : {R : Type 0} (says : Verdicts R) (r : R) → says.is_yes r ≡ false → says.is_no r ≡ true → IsDefinite says r
definite_no says r e f = rw (e, f) (λ h. cc)

-- some questions show it, and all of them have this truth
abbrev pub IsShownBy : {I : Type 0} → (Question I → Bool → Type 0) → Bool → (List (Question I) → Type 0) → Type 0
IsShownBy {I} HasTruth b shows =
    (shown : List (Question I)) × shows shown × ((q : Question I) → Contains shown q → HasTruth q b)

module _ {I R : Type 0} (says : Verdicts R) (HasTruth : Question I → Bool → Type 0) where
  -- the question was answered as it is truth
  record IsTold (a : Asked I R) : Type 0 where
    truth : Bool
    has_truth : HasTruth a.question truth
    is_yes : says.is_yes a.answer ≡ truth
    is_no : says.is_no a.answer ≡ not truth

  abbrev AreTold : Progress I R → Type 0
  AreTold p = (a : Asked I R) → Contains p.asked a → IsTold a

  -- the answer to a request is as its question is truth
  abbrev IsToldIn : Option (Request I R) → Reply R → Type 0
  IsToldIn (Some (Evaluate kind goal)) (Answer r) = (truth : Bool)
      × HasTruth (record { kind = kind; goal = goal }) truth × (says.is_yes r ≡ truth) × (says.is_no r ≡ not truth)
  IsToldIn _ _ = Unit {0}

  told_one : (p : Progress I R) (new : Asked I R) → AreTold p → IsTold new → (a : Asked I R)
      → Contains (p.asked ++ new ∷ []) a → IsTold a
  told_one p new told more a has =
      elim (Contains-append_cases p.asked (new ∷ []) a has) [
        | inl h ↦ told a h
        | inr h ↦ elim (first_or_later new a [] h) [
          | inl same ↦ subst IsTold same more
          | inr later ↦ absurd (omega (arith, later.1))
        ]
      ]

  told_with : (p : Progress I R) (q : Option (Request I R)) (reply : Reply R) → AreTold p
      → IsToldIn q reply → AreTold (progress_with p q reply)
  told_with p (Some (Evaluate kind goal)) (Answer r) told more =
      λ a has. told_one p
      (record { question = record { kind = kind; goal = goal }; answer = r; candidate = open_candidate p }) told
      (record { truth = more.0; has_truth = more.1; is_yes = more.2; is_no = more.3 }) a has
  told_with p (Some EnterCandidate) Noted told more = told
  told_with p (Some FinishCandidate) Noted told more = told
  told_with p (Some (Ignore n)) Noted told more = told
  told_with p _ _ told more = told

  -- the questions that count for a test
  truth_of : (test : R → Bool) (b : Bool) →
      ((a : Asked I R) → IsTold a → test a.answer ≡ true → HasTruth a.question b) →
      (p : Progress I R) → AreTold p → (q : Question I) → Contains (questions_answered test p) q → HasTruth q b
  truth_of test b passes p told q has =
      let m =
      Contains-map (λ a. a.question) (filter (λ a. test a.answer && is_counted p.ignored a.candidate) p.asked) q has in
      let f = filtered_member (λ a. test a.answer && is_counted p.ignored a.candidate) p.asked m.0 m.1 in
      subst (λ x. HasTruth x b) m.2
      (passes m.0 (told m.0 f.0) (and_parts (test m.0.answer) (is_counted p.ignored m.0.candidate) f.1).0)

  truth_of_yes : (p : Progress I R) → AreTold p → (q : Question I)
      → Contains (questions_answered says.is_yes p) q → HasTruth q true
  truth_of_yes p told q has = truth_of says.is_yes true
      (λ a t is. let e : t.truth ≡ true = cc in subst (HasTruth a.question) e t.has_truth) p told q has

  truth_of_no : (p : Progress I R) → AreTold p → (q : Question I)
      → Contains (questions_answered says.is_no p) q → HasTruth q false
  truth_of_no p told q has = truth_of says.is_no false
      (λ a t is. let e : t.truth ≡ false = not-true t.truth (sym t.is_no ∙ is) in
      subst (HasTruth a.question) e t.has_truth) p told q has

  module _ (script : List (Reply R) → Request I R)
      (answer : I → Bool → R) (answers_yes : (goal : I) (b : Bool) → says.is_yes (answer goal b) ≡ b)
      (answers_no : (goal : I) (b : Bool) → says.is_no (answer goal b) ≡ not b)
      (tell : (replies : List (Reply R)) (kind : PathKind) (goal : I) → IsFitting script replies
      → request_after script replies ≡ Some (Evaluate kind goal)
      → (truth : Bool) × HasTruth (record { kind = kind; goal = goal }) truth) where
    -- replies that are right so far
    record IsRun (replies : List (Reply R)) : Type 0 where
      is_fitting : IsFitting script replies
      are_decided : AreDecided says replies
      are_told : AreTold (progress_after script replies)

    answer_decided : (goal : I) (b : Bool) → IsDefinite says (answer goal b)
    answer_decided goal true = definite_yes says (answer goal true) (answers_yes goal true)
    answer_decided goal false = definite_no says (answer goal false) (answers_yes goal false) (answers_no goal false)

    run_with : (replies : List (Reply R)) (q : Option (Request I R)) (reply : Reply R) → IsRun replies
        → request_after script replies ≡ q → IsReplyTo (λ _ _. ⊤) q reply → IsDecidedReply says reply
        → IsToldIn q reply → IsRun (reply ∷ replies)
    run_with replies q reply run is fits decided told = record {
      is_fitting = (subst (λ x. IsReplyTo (λ _ _. ⊤) x reply) (sym is) fits, run.is_fitting);
      are_decided = (decided, run.are_decided);
      are_told = told_with (progress_after script replies) (request_after script replies) reply run.are_told
          (subst (λ x. IsToldIn x reply) (sym is) told);
    }

    -- the run goes on, or is done
    step : (replies : List (Reply R)) (q : Option (Request I R)) → IsRun replies → request_after script replies ≡ q
        → ((reply : Reply R) × IsRun (reply ∷ replies)) ⊎ ((r : R) × (request_after script replies ≡ Some (Done r)))
    step replies None run is = inl (Begin, run_with replies None Begin run is tt tt tt)
    step replies (Some (Evaluate kind goal)) run is =
        let w = tell replies kind goal run.is_fitting is in
        inl (
          Answer (answer goal w.0),
          run_with replies (Some (Evaluate kind goal)) (Answer (answer goal w.0)) run is tt (answer_decided goal w.0)
              (w.0, w.1, answers_yes goal w.0, answers_no goal w.0),
        )
    step replies (Some EnterCandidate) run is =
        inl (Noted, run_with replies (Some EnterCandidate) Noted run is tt tt tt)
    step replies (Some FinishCandidate) run is =
        inl (Noted, run_with replies (Some FinishCandidate) Noted run is tt tt tt)
    step replies (Some (Ignore n)) run is = inl (Noted, run_with replies (Some (Ignore n)) Noted run is tt tt tt)
    step replies (Some (Done r)) run is = inr (r, is)

    record IsDone : Type 0 where
      replies : List (Reply R)
      is_run : IsRun replies
      result : R
      is_done : request_after script replies ≡ Some (Done result)

    module _ (most : ℕ) (done_after : IsDoneAfter most script) where
      go_on : (fuel : ℕ) (replies : List (Reply R)) → IsRun replies → most < length replies + fuel → IsDone
      go_on zero replies run l = let h = done_after replies run.is_fitting in absurd (omega arith)
      go_on (suc fuel) replies run l =
          elim (step replies (request_after script replies) run refl) [
            | inl next ↦ go_on fuel (next.0 ∷ replies) next.1 (omega arith)
            | inr end ↦ record { replies = replies; is_run = run; result = end.0; is_done = end.1 }
          ]

      goes : IsDone
      goes = go_on (suc most) [] (record {
        is_fitting = tt;
        are_decided = tt;
        are_told = λ a has. absurd (omega (arith, has.1));
      }) (omega arith)

      module _ (orderly : IsOrderly script)
          (ends : (replies : List (Reply R)) (r : R) → IsFitting script replies → AreDecided says replies
          → request_after script replies ≡ Some (Done r) → IsDefinite says r)
          (proved refuted : List (Question I) → Type 0)
          (yes_is_proved : (replies : List (Reply R)) (r : R) → EndsIn script replies r → says.is_yes r ≡ true
          → proved (questions_answered says.is_yes (progress_after script replies)))
          (no_is_refuted : (replies : List (Reply R)) (r : R) → EndsIn script replies r → says.is_no r ≡ true
          → refuted (questions_answered says.is_no (progress_after script replies))) where
        shown_at : (d : IsDone) → IsShownBy HasTruth true proved ⊎ IsShownBy HasTruth false refuted
        shown_at d =
            let run = d.is_run in
            let end : EndsIn script d.replies d.result = record {
              is_fitting = run.is_fitting;
              is_in_order = in_order script orderly d.replies run.is_fitting;
              is_done = d.is_done;
            } in
            elim (yes_or_no says d.result (ends d.replies d.result run.is_fitting run.are_decided d.is_done)) [
              | inl is ↦ inl (
                questions_answered says.is_yes (progress_after script d.replies),
                yes_is_proved d.replies d.result end is,
                truth_of_yes (progress_after script d.replies) run.are_told,
              )
              | inr is ↦ inr (
                questions_answered says.is_no (progress_after script d.replies),
                no_is_refuted d.replies d.result end is,
                truth_of_no (progress_after script d.replies) run.are_told,
              )
            ]

        -- the script comes to a proof by questions that are true, or to a refutation by questions that are false
        pub comes_to : IsShownBy HasTruth true proved ⊎ IsShownBy HasTruth false refuted
        comes_to = shown_at goes
