-- The laws of goals that count down: a yes rests on a question that was answered yes, and a no on one
-- that was answered no.
use Rattle.std.specs.Prelude.{◌≡◌, ◌<◌, ◌==◌, ℕ, Bool, true, false, List, [], ◌∷◌, Some, Contains, refl}
use Rattle.std.proofs.Common.{zero, suc, inl, inr, sym, subst, arith}
use Rattle.std.proofs.lemmas.Bool.{eqb-true}
use Rattle.test_delegates.specs.Below.{Reply, Begin, Answer, Question, EndsIn, progress_after, questions_answered}
use Rattle.test_delegates.specs.Below.{Outcome, Yes, No, Maybe, Overflow, is_yes, is_no}
use Rattle.test_delegates.specs.Requests.{done, none_after_done, nothing_done}
use Rattle.test_delegates.specs.declared.countdown.Count.{Count}
use Rattle.test_delegates.specs.declared.countdown.Countdown.{Countdown}
use Rattle.test_delegates.specs.Countdown.{Proves, Refutes, both, question_below}
use Rattle.test_delegates.specs.CountFrames.{asks_below, outcome_after, script_of, count_script}

question_not_done : (goal : Count) (r : Outcome) → Some (asks_below goal) ≡ done Count r → ⊥
question_not_done goal r e = absurd cc

-- the run's result has what is said of the request
result_is : (test : Outcome → Bool) (s r : Outcome) → done Count s ≡ done Count r → test r ≡ true → test s ≡ true
result_is test s r e is = let same : s ≡ r = cc in subst (λ v. test v ≡ true) (sym same) is

not_so : false ≡ true → ⊥
not_so e = absurd cc

number_is_zero : (goal : Count) → (goal.0 == 0) ≡ true → goal.0 ≡ 0
number_is_zero goal at = eqb-true goal.0 0 at

more_than_zero : (n : ℕ) → (n == 0) ≡ false → 0 < n
more_than_zero zero at = absurd cc
more_than_zero (suc n) at = omega arith

above_zero : (goal : Count) → (goal.0 == 0) ≡ false → 0 < goal.0
above_zero goal at = more_than_zero goal.0 at

-- Where each run of a goal other than 0 has its law, by its one answer or its two, so has every run.
rests_on_answers : (test : Outcome → Bool) (Law : List (Question Count) → Type 0) (goal : Count) →
    ((a : Outcome) → test (both Yes a) ≡ true →
    Law (questions_answered test (progress_after (script_of false false goal) (Answer a ∷ Begin ∷ [])))) →
    ((a b : Outcome) → test (both (both Yes b) a) ≡ true →
    Law (questions_answered test (progress_after (script_of false true goal) (Answer a ∷ Answer b ∷ Begin ∷ [])))) →
    (asks_twice : Bool) (replies : List (Reply Outcome)) (r : Outcome) →
    EndsIn (script_of false asks_twice goal) replies r → test r ≡ true →
    Law (questions_answered test (progress_after (script_of false asks_twice goal) replies))
rests_on_answers test Law goal once twice asks_twice [] r h is = absurd (nothing_done Count r h.is_done)
rests_on_answers test Law goal once twice asks_twice (x ∷ []) r h is = absurd (question_not_done goal r h.is_done)
rests_on_answers test Law goal once twice false (Answer a ∷ Begin ∷ []) r h is =
    once a (result_is test (both Yes a) r h.is_done is)
rests_on_answers test Law goal once twice false (Answer a ∷ y ∷ []) r h is = absurd h.is_fitting.1.0
rests_on_answers test Law goal once twice false (x ∷ y ∷ []) r h is = absurd h.is_fitting.0
rests_on_answers test Law goal once twice false (x ∷ y ∷ z ∷ []) r h is =
    absurd (none_after_done Count (outcome_after (y ∷ z ∷ [])) x h.is_fitting.0)
rests_on_answers test Law goal once twice true (x ∷ y ∷ []) r h is = absurd (question_not_done goal r h.is_done)
rests_on_answers test Law goal once twice true (Answer a ∷ Answer b ∷ Begin ∷ []) r h is =
    twice a b (result_is test (both (both Yes b) a) r h.is_done is)
rests_on_answers test Law goal once twice true (Answer a ∷ Answer b ∷ z ∷ []) r h is = absurd h.is_fitting.1.1.0
rests_on_answers test Law goal once twice true (Answer a ∷ y ∷ z ∷ []) r h is = absurd h.is_fitting.1.0
rests_on_answers test Law goal once twice true (x ∷ y ∷ z ∷ []) r h is = absurd h.is_fitting.0
rests_on_answers test Law goal once twice asks_twice (x ∷ y ∷ z ∷ w ∷ []) r h is =
    absurd (none_after_done Count (outcome_after (y ∷ z ∷ w ∷ [])) x h.is_fitting.0)
rests_on_answers test Law goal once twice asks_twice (x ∷ y ∷ z ∷ w ∷ v ∷ earlier) r h is =
    absurd (none_after_done Count (outcome_after (y ∷ z ∷ w ∷ v ∷ earlier)) x h.is_fitting.0)

yes_once : (goal : Count) (a : Outcome) → is_yes (both Yes a) ≡ true
    → Contains (questions_answered is_yes (progress_after (script_of false false goal) (Answer a ∷ Begin ∷ [])))
    (question_below goal)
yes_once goal Yes is = (0, omega arith, refl)
yes_once goal No is = absurd (not_so is)
yes_once goal Maybe is = absurd (not_so is)
yes_once goal Overflow is = absurd (not_so is)

yes_twice : (goal : Count) (a b : Outcome) → is_yes (both (both Yes b) a) ≡ true → Contains (questions_answered is_yes
    (progress_after (script_of false true goal) (Answer a ∷ Answer b ∷ Begin ∷ []))) (question_below goal)
yes_twice goal a No is = absurd (not_so is)
yes_twice goal Yes Yes is = (0, omega arith, refl)
yes_twice goal No Yes is = absurd (not_so is)
yes_twice goal Maybe Yes is = absurd (not_so is)
yes_twice goal Overflow Yes is = absurd (not_so is)
yes_twice goal Yes Maybe is = absurd (not_so is)
yes_twice goal No Maybe is = absurd (not_so is)
yes_twice goal Maybe Maybe is = absurd (not_so is)
yes_twice goal Overflow Maybe is = absurd (not_so is)
yes_twice goal Yes Overflow is = absurd (not_so is)
yes_twice goal No Overflow is = absurd (not_so is)
yes_twice goal Maybe Overflow is = absurd (not_so is)
yes_twice goal Overflow Overflow is = absurd (not_so is)

no_once : (goal : Count) (a : Outcome) → is_no (both Yes a) ≡ true
    → Contains (questions_answered is_no (progress_after (script_of false false goal) (Answer a ∷ Begin ∷ [])))
    (question_below goal)
no_once goal Yes is = absurd (not_so is)
no_once goal No is = (0, omega arith, refl)
no_once goal Maybe is = absurd (not_so is)
no_once goal Overflow is = absurd (not_so is)

no_twice : (goal : Count) (a b : Outcome) → is_no (both (both Yes b) a) ≡ true → Contains (questions_answered is_no
    (progress_after (script_of false true goal) (Answer a ∷ Answer b ∷ Begin ∷ []))) (question_below goal)
no_twice goal a No is = (0, omega arith, refl)
no_twice goal Yes Yes is = absurd (not_so is)
no_twice goal No Yes is = (0, omega arith, refl)
no_twice goal Maybe Yes is = absurd (not_so is)
no_twice goal Overflow Yes is = absurd (not_so is)
no_twice goal Yes Maybe is = absurd (not_so is)
no_twice goal No Maybe is = (0, omega arith, refl)
no_twice goal Maybe Maybe is = absurd (not_so is)
no_twice goal Overflow Maybe is = absurd (not_so is)
no_twice goal Yes Overflow is = absurd (not_so is)
no_twice goal No Overflow is = (0, omega arith, refl)
no_twice goal Maybe Overflow is = absurd (not_so is)
no_twice goal Overflow Overflow is = absurd (not_so is)

yes_rests : (is_zero asks_twice : Bool) (goal : Count) (replies : List (Reply Outcome)) (r : Outcome)
    → (goal.0 == 0) ≡ is_zero → EndsIn (script_of is_zero asks_twice goal) replies r → is_yes r ≡ true
    → Proves goal (questions_answered is_yes (progress_after (script_of is_zero asks_twice goal) replies))
yes_rests true asks_twice goal replies r at h is = inl (number_is_zero goal at)
yes_rests false asks_twice goal replies r at h is = inr (rests_on_answers is_yes
    (λ held. Contains held (question_below goal)) goal (yes_once goal) (yes_twice goal) asks_twice replies r h is)

no_rests : (is_zero asks_twice : Bool) (goal : Count) (replies : List (Reply Outcome)) (r : Outcome)
    → (goal.0 == 0) ≡ is_zero → EndsIn (script_of is_zero asks_twice goal) replies r → is_no r ≡ true
    → Refutes goal (questions_answered is_no (progress_after (script_of is_zero asks_twice goal) replies))
no_rests true asks_twice goal [] r at h is = absurd (nothing_done Count r h.is_done)
no_rests true asks_twice goal (x ∷ earlier) r at h is = absurd (not_so (result_is is_no Yes r h.is_done is))
no_rests false asks_twice goal replies r at h is = (
  above_zero goal at,
  rests_on_answers is_no (λ failed. Contains failed (question_below goal)) goal (no_once goal)
      (no_twice goal) asks_twice replies r h is,
)

pub yes_is_proved : (cx : Countdown) (goal : Count) (replies : List (Reply Outcome)) (r : Outcome)
    → EndsIn (count_script cx goal) replies r → is_yes r ≡ true
    → Proves goal (questions_answered is_yes (progress_after (count_script cx goal) replies))
yes_is_proved cx goal replies r = yes_rests (goal.0 == 0) cx.asks_twice goal replies r refl

pub no_is_refuted : (cx : Countdown) (goal : Count) (replies : List (Reply Outcome)) (r : Outcome)
    → EndsIn (count_script cx goal) replies r → is_no r ≡ true
    → Refutes goal (questions_answered is_no (progress_after (count_script cx goal) replies))
no_is_refuted cx goal replies r = no_rests (goal.0 == 0) cx.asks_twice goal replies r refl
