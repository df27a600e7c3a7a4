-- What is known of a frame once it was told some replies, whatever is known of each single answer.
use Rattle.std.specs.Prelude.{◌≡◌, ℕ, ◌+◌, ◌<◌, Bool, true, false, ◌&&◌, ◌||◌, List, [], ◌∷◌, slice_get, Contains}
use Rattle.std.specs.Prelude.{Option, Some, None, refl}
use Rattle.std.proofs.Common.{ap, sym, ◌∙◌, subst, arith, inl, inr, ◌⊎◌, ◌≢◌}
use Rattle.std.proofs.lemmas.Bool.Decides.{eqb_tells}
use Rattle.std.proofs.lemmas.Option.{slice_get-get_or, slice_get_within, get_or_from_slice_get}
use Rattle.question_lists.specs.Below.{Question, Evaluate, Done, Reply, Begin, Answer, Noted, Outcome, Maybe}
use Rattle.question_lists.specs.Below.{AreRepliesTo, IsReplyTo, request_after}
use Rattle.question_lists.specs.declared.needs.Needs.{Needs}
use Rattle.question_lists.specs.declared.frame.State.{State}
use Rattle.question_lists.specs.Needs.{is_filling, is_enough, early_outcome, full_outcome}
use Rattle.question_lists.specs.Frame.{with_reply, outcome_of, request_for, next_question, state_after, script_of}

pub Contains-at : {A : Type 0} (xs : List A) (i : ℕ) (x : A) → slice_get xs i ≡ Some x → Contains xs x
Contains-at xs i x e = (i, slice_get_within xs i x e, get_or_from_slice_get xs i x x e)

pub at-Contains : {A : Type 0} (xs : List A) (x : A) (w : Contains xs x) → slice_get xs w.0 ≡ Some x
at-Contains xs x w = slice_get-get_or xs w.0 x w.1 ∙ ap Some w.2

-- a place is before one where nothing stands
before_end : {A : Type 0} (xs : List A) (i n : ℕ) (x : A) → slice_get xs n ≡ None → slice_get xs i ≡ Some x → i < n
before_end [] i n x e h = absurd cc
before_end (y ∷ xs) i ℕ.zero x e h = absurd cc
before_end (y ∷ xs) ℕ.zero (ℕ.suc n) x e h = omega arith
before_end (y ∷ xs) (ℕ.suc i) (ℕ.suc n) x e h = let l = before_end xs i n x e h in omega arith

both_true : (a b : Bool) → (a && b) ≡ true → (a ≡ true) × (b ≡ true)
both_true true true e = (refl, refl)
both_true true false e = absurd cc
both_true false b e = absurd cc

one_false : (a b : Bool) → (a && b) ≡ false → (a ≡ false) ⊎ (b ≡ false)
one_false true b e = inr e
one_false false b e = inl refl

one_true : (a b : Bool) → (a || b) ≡ true → (a ≡ true) ⊎ (b ≡ true)
one_true true b e = inl refl
one_true false b e = inr e

both_false : (a b : Bool) → (a || b) ≡ false → (a ≡ false) × (b ≡ false)
both_false true b e = absurd cc
both_false false b e = (refl, e)

same_at : {A : Type 0} (xs : List A) (i j : ℕ) (x y : A) → i ≡ j
    → slice_get xs i ≡ Some x → slice_get xs j ≡ Some y → x ≡ y
same_at xs i j x y e h k = let g : slice_get xs i ≡ slice_get xs j = ap (slice_get xs) e in cc

module _ {I : Type 0} where
  -- a reply that fits the request answers the question
  pub record Answers (allowed : I → Outcome → Type 0) (o : Option (Question I)) (reply : Reply Outcome) : Type 0 where
    pub question : Question I
    pub outcome : Outcome
    pub is_asked : o ≡ Some question
    pub is_reply : reply ≡ Answer outcome
    pub is_allowed : allowed question.goal outcome

  pub answers_question : (allowed : I → Outcome → Type 0) (so_far : Outcome) (o : Option (Question I))
      (reply : Reply Outcome) → IsReplyTo allowed (Some (request_for so_far o)) reply → Answers allowed o reply
  answers_question allowed so_far None Begin h = absurd h
  answers_question allowed so_far None (Answer r) h = absurd h
  answers_question allowed so_far None Noted h = absurd h
  answers_question allowed so_far (Some q) Begin h = absurd h
  answers_question allowed so_far (Some q) (Answer r) h =
      record { question = q; outcome = r; is_asked = refl; is_reply = refl; is_allowed = h }
  answers_question allowed so_far (Some q) Noted h = absurd h

  pub next_question-is : (questions : List (Question I)) (has_enough : Bool) (place : ℕ) (q : Question I)
      → next_question questions has_enough place ≡ Some q → (has_enough ≡ false) × (slice_get questions place ≡ Some q)
  next_question-is questions true place q e = absurd cc
  next_question-is questions false place q e = (refl, e)

  -- the result is that of the answers so far, and no question is left
  pub request-done : (so_far r : Outcome) (o : Option (Question I))
      → Some (request_for so_far o) ≡ Some (Done r) → (so_far ≡ r) × (o ≡ None)
  request-done so_far r None e = (cc, refl)
  request-done so_far r (Some q) e = absurd cc

  pub request-asks : (so_far : Outcome) (o : Option (Question I)) (q : Question I)
      → Some (request_for so_far o) ≡ Some (Evaluate q.kind q.goal) → o ≡ Some q
  request-asks so_far None q e = absurd cc
  request-asks so_far (Some p) q e = let k : p.kind ≡ q.kind = cc in let g : p.goal ≡ q.goal = cc in
      ap {A = Question I} (λ z. Some z) (λ i. record { kind = k i; goal = g i })

-- `Told replies q r` is what is known after these replies of a question that was answered so.
module _ {I : Type 0} (needs : Needs) (questions : List (Question I)) (allowed : I → Outcome → Type 0)
    (Told : List (Reply Outcome) → Question I → Outcome → Type 0)
    (keep : (earlier : List (Reply Outcome)) (reply : Reply Outcome) (q : Question I) (r : Outcome)
    → Told earlier q r → Told (reply ∷ earlier) q r)
    (new : (earlier : List (Reply Outcome)) (q : Question I) (r : Outcome)
    → request_after (script_of needs questions) earlier ≡ Some (Evaluate q.kind q.goal) → allowed q.goal r
    → Told (Answer r ∷ earlier) q r) where
  -- the question has an answer that passes
  abbrev pub HasAnswerThat : List (Reply Outcome) → (Outcome → Bool) → Question I → Type 0
  HasAnswerThat replies test q = (r : Outcome) × (test r ≡ true) × Told replies q r

  -- the question has an answer that is neither enough nor one that fills
  abbrev pub HasOtherAnswer : List (Reply Outcome) → Question I → Type 0
  HasOtherAnswer replies q =
      (r : Outcome) × (is_filling needs r ≡ false) × (is_enough needs r ≡ false) × Told replies q r

  pub record KnowsReplies (replies : List (Reply Outcome)) (s : State) : Type 0 where
    pub full : s.is_full ≡ true → (at : ℕ) (q : Question I) → at < s.place → slice_get questions at ≡ Some q
        → HasAnswerThat replies (is_filling needs) q
    pub enough : s.has_enough ≡ true
        → (q : Question I) × Contains questions q × HasAnswerThat replies (is_enough needs) q
    pub undecided : s.is_full ≡ false → s.has_enough ≡ false
        → (q : Question I) × Contains questions q × HasOtherAnswer replies q

  keep_answer : (earlier : List (Reply Outcome)) (reply : Reply Outcome) (test : Outcome → Bool) (q : Question I)
      → HasAnswerThat earlier test q → HasAnswerThat (reply ∷ earlier) test q
  keep_answer earlier reply test q h = (h.0, h.1, keep earlier reply q h.0 h.2)

  full_with : (earlier : List (Reply Outcome)) (s : State) (q : Question I) (r : Outcome) → KnowsReplies earlier s →
      slice_get questions s.place ≡ Some q → Told (Answer r ∷ earlier) q r →
      is_filling needs r ≡ true → s.is_full ≡ true → (at : ℕ) (p : Question I) → at < s.place + 1 →
      slice_get questions at ≡ Some p → HasAnswerThat (Answer r ∷ earlier) (is_filling needs) p
  full_with earlier s q r old is_at told fills is_full at p l e =
      elim (eqb_tells at s.place) [
        | inl w ↦ (
          r,
          fills,
          subst (λ x. Told (Answer r ∷ earlier) x r) (same_at questions s.place at q p (sym w.1) is_at e) told,
        )
        | inr w ↦ let ne : at ≢ s.place = w.1 in
            keep_answer earlier (Answer r) (is_filling needs) p (old.full is_full at p (omega arith) e)
      ]

  answered : (earlier : List (Reply Outcome)) (s : State) (q : Question I) (r : Outcome) → KnowsReplies earlier s →
      slice_get questions s.place ≡ Some q → Told (Answer r ∷ earlier) q r →
      KnowsReplies (Answer r ∷ earlier) (with_reply needs s (Answer r))
  answered earlier s q r old is_at told = record {
    full = λ e. let b = both_true s.is_full (is_filling needs r) e in full_with earlier s q r old is_at told b.1 b.0;
    enough = λ e. elim (one_true s.has_enough (is_enough needs r) e) [
      | inl h ↦ let w = old.enough h in (w.0, w.1, keep_answer earlier (Answer r) (is_enough needs) w.0 w.2)
      | inr h ↦ (q, Contains-at questions s.place q is_at, (r, h, told))
    ];
    undecided = λ e f.
        let b = both_false s.has_enough (is_enough needs r) f in elim (one_false s.is_full (is_filling needs r) e) [
          | inl h ↦
              let w = old.undecided h b.0 in (w.0, w.1, (w.2.0, w.2.1, w.2.2, keep earlier (Answer r) w.0 w.2.0 w.2.3))
          | inr h ↦ (q, Contains-at questions s.place q is_at, (r, h, b.1, told))
        ];
  }

  begun : (replies : List (Reply Outcome)) (s : State) → s.is_full ≡ true → s.has_enough ≡ false
      → s.place ≡ 0 → KnowsReplies replies s
  begun replies s full enough place = record {
    full = λ _ at q l e. absurd (omega arith);
    enough = λ h. absurd cc;
    undecided = λ h _. absurd cc;
  }

  pub is_told : (replies : List (Reply Outcome)) → AreRepliesTo allowed (script_of needs questions) replies
      → KnowsReplies replies (state_after needs replies)
  is_told [] h = begun [] (state_after needs []) refl refl refl
  is_told (Begin ∷ []) h = begun (Begin ∷ []) (state_after needs (Begin ∷ [])) refl refl refl
  is_told (Answer r ∷ []) h = absurd h.0
  is_told (Noted ∷ []) h = absurd h.0
  is_told (x ∷ y ∷ earlier) h =
      let s = state_after needs (y ∷ earlier) in
      let o = next_question questions s.has_enough s.place in
      let a = answers_question allowed (outcome_of needs s) o x h.0 in
      let at = next_question-is questions s.has_enough s.place a.question a.is_asked in
      let asks : request_after (script_of needs questions) (y ∷ earlier)
      ≡ Some (Evaluate a.question.kind a.question.goal) =
      ap (λ p. Some (request_for (outcome_of needs s) p)) a.is_asked in
      subst (λ z. KnowsReplies (z ∷ y ∷ earlier) (with_reply needs s z)) (sym a.is_reply)
      (answered (y ∷ earlier) s a.question a.outcome (is_told (y ∷ earlier) h.1) at.1
      (new (y ∷ earlier) a.question a.outcome asks a.is_allowed))

  -- a run that has ended: one answer was enough, or all filled the goal, or some answer did neither
  pub data IsEnd (replies : List (Reply Outcome)) (r : Outcome) : Type 0 where
    Early : r ≡ early_outcome needs → (q : Question I) → Contains questions q
        → HasAnswerThat replies (is_enough needs) q → IsEnd replies r
    Full : r ≡ full_outcome needs
        → ((q : Question I) → Contains questions q → HasAnswerThat replies (is_filling needs) q) → IsEnd replies r
    Undecided : r ≡ Maybe → (q : Question I) → Contains questions q → HasOtherAnswer replies q → IsEnd replies r

  end_with : (replies : List (Reply Outcome)) (s : State) (r : Outcome) (has_enough is_full : Bool) →
      s.has_enough ≡ has_enough → s.is_full ≡ is_full → KnowsReplies replies s →
      outcome_of needs (record s { has_enough = has_enough; is_full = is_full }) ≡ r →
      next_question questions has_enough s.place ≡ None → IsEnd replies r
  end_with replies s r true is_full e f told is none = let w = told.enough e in Early (sym is) w.0 w.1 w.2
  end_with replies s r false true e f told is none = Full (sym is) (λ q has. told.full f has.0 q
      (before_end questions has.0 s.place q none (at-Contains questions q has)) (at-Contains questions q has))
  end_with replies s r false false e f told is none = let w = told.undecided f e in Undecided (sym is) w.0 w.1 w.2

  pub is_end : (replies : List (Reply Outcome)) (r : Outcome) → AreRepliesTo allowed (script_of needs questions) replies
      → request_after (script_of needs questions) replies ≡ Some (Done r) → IsEnd replies r
  is_end [] r h e = absurd cc
  is_end (x ∷ earlier) r h e =
      let s = state_after needs (x ∷ earlier) in
      let d = request-done (outcome_of needs s) r (next_question questions s.has_enough s.place) e in
      end_with (x ∷ earlier) s r s.has_enough s.is_full refl refl (is_told (x ∷ earlier) h) d.0 d.1
