-- Goals whose questions go down in a number: they are ranked and orderly, and each plain value says whether the goal
-- holds. And goals that ask inductively and coinductively alone are decisive.
use Rattle.std.proofs.Common.{◌≡◌, ℕ, zero, suc, ◌<◌, ◌≤◌, ◌⊎◌, inl, inr, Bool, true, false, List, [], ◌∷◌, Contains}
use Rattle.std.proofs.Common.{Option, Some, None, refl, sym, ap, subst, arith}
use Rattle.std.specs.Prelude.{⊤}
use Rattle.question_lists.specs.Below.{Question, Request, Evaluate, Reply, Outcome, Yes, No, Maybe, Overflow, is_yes}
use Rattle.question_lists.specs.Below.{is_no, outcome_verdicts, IsDefinite, AreDecided, IsDecidedKind, IsDecisive}
use Rattle.question_lists.specs.Below.{IsOrderly, IsOrderlyTo, IsRanked, IsPlainTo, IsPlainValue, IsResultOf, Progress}
use Rattle.question_lists.specs.Below.{progress_after, order_fault, request_after}
use Rattle.question_lists.specs.declared.needs.Needs.{Needs}
use Rattle.question_lists.specs.declared.needs.Needs.TheVariants.{All, Any}
use Rattle.question_lists.specs.Frame.{outcome_of, request_for, next_question, state_after, script_of}
use Rattle.question_lists.specs.Told.{Contains-at, request-asks, next_question-is, IsEnd, Early, Full}
use Rattle.question_lists.specs.Told.{Undecided, is_end}

not_yes : (r : Outcome) → r ≡ No → is_yes r ≡ true → ⊥
not_yes r e t = let g : is_yes r ≡ is_yes No = ap is_yes e in absurd cc

not_no : (r : Outcome) → r ≡ Yes → is_no r ≡ true → ⊥
not_no r e t = let g : is_no r ≡ is_no Yes = ap is_no e in absurd cc

not_false : (test : Outcome → Bool) (r s : Outcome) → r ≡ s → test s ≡ true → test r ≡ false → ⊥
not_false test r s e t f = let g : test r ≡ test s = ap test e in absurd cc

definite_yes : (r : Outcome) → r ≡ Yes → IsDefinite outcome_verdicts r
definite_yes r e = subst (IsDefinite outcome_verdicts) (sym e) (λ h. absurd cc)

definite_no : (r : Outcome) → r ≡ No → IsDefinite outcome_verdicts r
definite_no r e = subst (IsDefinite outcome_verdicts) (sym e) (λ h. absurd cc)

never_open : (r : Outcome) → IsDefinite outcome_verdicts r → is_yes r ≡ false → is_no r ≡ false → ⊥
never_open Yes h e f = absurd cc
never_open No h e f = absurd cc
never_open Maybe h e f = h refl
never_open Overflow h e f = h refl

module _ {I : Type 0} (needs_of : I → Needs) (questions_of : I → List (Question I)) where
  -- the scripts of all goals
  abbrev pub scripts : I → List (Reply Outcome) → Request I Outcome
  scripts goal = script_of (needs_of goal) (questions_of goal)

  -- a script asks the goal's questions alone
  pub asked_of : (goal : I) (replies : List (Reply Outcome)) (q : Question I)
      → request_after (scripts goal) replies ≡ Some (Evaluate q.kind q.goal) → Contains (questions_of goal) q
  asked_of goal [] q e = absurd cc
  asked_of goal (x ∷ earlier) q e =
      let s = state_after (needs_of goal) (x ∷ earlier) in
      let a =
      request-asks (outcome_of (needs_of goal) s) (next_question (questions_of goal) s.has_enough s.place) q e in
      Contains-at (questions_of goal) s.place q (next_question-is (questions_of goal) s.has_enough s.place q a).1

  no_fault : (p : Progress I Outcome) (so_far : Outcome) (o : Option (Question I))
      → order_fault p (Some (request_for so_far o)) ≡ None
  no_fault p so_far None = refl
  no_fault p so_far (Some q) = refl

  pub orderly : (goal : I) → IsOrderly (scripts goal)
  orderly goal [] h = refl
  orderly goal (x ∷ earlier) h =
      let s = state_after (needs_of goal) (x ∷ earlier) in
      no_fault (progress_after (scripts goal) (x ∷ earlier)) (outcome_of (needs_of goal) s)
      (next_question (questions_of goal) s.has_enough s.place)

  orderly_to : (n : ℕ) (goal : I) → IsOrderlyTo scripts n goal
  orderly_to zero goal = orderly goal
  orderly_to (suc n) goal = (orderly goal, λ replies kind asked h e. orderly_to n asked)

  module _ (rank : I → ℕ)
      (down : (goal : I) (q : Question I) → Contains (questions_of goal) q → rank q.goal < rank goal) where
    ranked : (n : ℕ) (goal : I) → rank goal ≤ n → IsRanked scripts n goal
    ranked zero goal l = λ replies kind asked h e. let d : rank asked < rank goal = down goal
        (record { kind = kind; goal = asked }) (asked_of goal replies (record { kind = kind; goal = asked }) e) in
        omega (arith, d, l)
    ranked (suc n) goal l = λ replies kind asked h e.
        let d : rank asked < rank goal = down goal (record { kind = kind; goal = asked })
        (asked_of goal replies (record { kind = kind; goal = asked }) e) in
        ranked n asked (omega (arith, d, l))

    -- each goal is plain to its number
    pub plain_to : (n : ℕ) (goal : I) → rank goal ≤ n → IsPlainTo scripts n goal
    plain_to n goal l = record { is_ranked = ranked n goal l; is_orderly = orderly_to n goal }

  -- `holds` follows the rule of each goal
  pub record IsSolution (holds : I → Type 0) : Type 0 where
    pub all_hold : (goal : I) → needs_of goal ≡ All
        → ((q : Question I) → Contains (questions_of goal) q → holds q.goal) → holds goal
    pub some_fails : (goal : I) (q : Question I) → needs_of goal ≡ All → Contains (questions_of goal) q
        → (holds q.goal → ⊥) → holds goal → ⊥
    pub some_holds : (goal : I) (q : Question I) → needs_of goal ≡ Any
        → Contains (questions_of goal) q → holds q.goal → holds goal
    pub all_fail : (goal : I) → needs_of goal ≡ Any
        → ((q : Question I) → Contains (questions_of goal) q → holds q.goal → ⊥) → holds goal → ⊥

  module _ (holds : I → Type 0) (is_solution : IsSolution holds) where
    -- the result is yes and the goal holds, or it is no and the goal does not
    abbrev pub Says : I → Outcome → Type 0
    Says goal r = ((r ≡ Yes) × holds goal) ⊎ ((r ≡ No) × (holds goal → ⊥))

    said_yes : (goal : I) (r : Outcome) → is_yes r ≡ true → Says goal r → holds goal
    said_yes goal r is (inl w) = w.1
    said_yes goal r is (inr w) = absurd (not_yes r w.0 is)

    said_no : (goal : I) (r : Outcome) → is_no r ≡ true → Says goal r → holds goal → ⊥
    said_no goal r is (inl w) = absurd (not_no r w.0 is)
    said_no goal r is (inr w) = w.1

    said_neither : (goal : I) (r : Outcome) → is_yes r ≡ false → is_no r ≡ false → Says goal r → ⊥
    said_neither goal r f g (inl w) = not_false is_yes r Yes w.0 refl f
    said_neither goal r f g (inr w) = not_false is_no r No w.0 refl g

    module _ (goal : I) (allowed : I → Outcome → Type 0)
        (said : (asked : I) (r : Outcome) → allowed asked r → Says asked r)
        (replies : List (Reply Outcome)) (r : Outcome) where
      says_at : (needs : Needs) → needs_of goal ≡ needs → IsEnd needs (questions_of goal) allowed
          (λ _ q a. Says q.goal a) (λ _ _ _ _ h. h) (λ _ q a _ h. said q.goal a h) replies r → Says goal r
      says_at All is (Early e q has w) = inr (e, is_solution.some_fails goal q is has (said_no q.goal w.0 w.1 w.2))
      says_at All is (Full e h) =
          inl (e, is_solution.all_hold goal is (λ q has. let w = h q has in said_yes q.goal w.0 w.1 w.2))
      says_at All is (Undecided e q has w) = absurd (said_neither q.goal w.0 w.1 w.2 w.3)
      says_at Any is (Early e q has w) = inl (e, is_solution.some_holds goal q is has (said_yes q.goal w.0 w.1 w.2))
      says_at Any is (Full e h) =
          inr (e, is_solution.all_fail goal is (λ q has. let w = h q has in said_no q.goal w.0 w.1 w.2))
      says_at Any is (Undecided e q has w) = absurd (said_neither q.goal w.0 w.2 w.1 w.3)

    says_of : (allowed : I → Outcome → Type 0) → ((asked : I) (r : Outcome) → allowed asked r → Says asked r)
        → (goal : I) (r : Outcome) → IsResultOf allowed (scripts goal) r → Says goal r
    says_of allowed said goal r h =
        says_at goal allowed said h.replies r (needs_of goal) refl
        (is_end (needs_of goal) (questions_of goal) allowed (λ _ q a. Says q.goal a) (λ _ _ _ _ s. s)
        (λ _ q a _ s. said q.goal a s) h.replies r h.is_answered h.is_done)

    -- each plain value says whether its goal holds
    pub plain_says : (n : ℕ) (goal : I) (r : Outcome) → IsPlainValue scripts n goal r → Says goal r
    plain_says zero goal r h = says_of (λ _ _. ⊥) (λ _ _ e. absurd e) goal r h
    plain_says (suc n) goal r h = says_of (IsPlainValue scripts n) (plain_says n) goal r h

  module _ (replies : List (Reply Outcome)) (r : Outcome) (decided : AreDecided outcome_verdicts replies) where
    -- the answer is yes or no if all are
    abbrev Definite : List (Reply Outcome) → Question I → Outcome → Type 0
    Definite earlier q a = AreDecided outcome_verdicts earlier → IsDefinite outcome_verdicts a

    ends_at : (needs : Needs) (questions : List (Question I))
        → IsEnd needs questions (λ _ _. ⊤) Definite (λ _ _ _ _ t d. t d.1) (λ _ _ _ _ _ d. d.0) replies r
        → IsDefinite outcome_verdicts r
    ends_at All questions (Early e q has w) = definite_no r e
    ends_at All questions (Full e h) = definite_yes r e
    ends_at All questions (Undecided e q has w) = absurd (never_open w.0 (w.3 decided) w.1 w.2)
    ends_at Any questions (Early e q has w) = definite_yes r e
    ends_at Any questions (Full e h) = definite_no r e
    ends_at Any questions (Undecided e q has w) = absurd (never_open w.0 (w.3 decided) w.2 w.1)

  -- goals that ask by such kinds alone are decided where no limit is met
  pub decisive : ((goal : I) (q : Question I) → Contains (questions_of goal) q → IsDecidedKind q.kind)
      → IsDecisive outcome_verdicts scripts
  decisive kinds = record {
    asks = λ goal asked replies kind h e. kinds goal (record { kind = kind; goal = asked })
        (asked_of goal replies (record { kind = kind; goal = asked }) e);
    ends = λ goal replies r h d e. ends_at replies r d (needs_of goal) (questions_of goal)
        (is_end (needs_of goal) (questions_of goal) (λ _ _. ⊤) (Definite replies r d) (λ _ _ _ _ t k. t k.1)
        (λ _ _ _ _ _ k. k.0) replies r h e);
  }
