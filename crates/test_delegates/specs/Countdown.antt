-- Goals that count down: what proves and refutes them, and what two answers come to.
use Rattle.std.specs.Prelude.{◌≡◌, ◌<◌, ◌-◌, ◌⊎◌, List, Contains}
use Rattle.std.proofs.Common.{inl, inr, arith}
use Rattle.test_delegates.specs.Below.{Inductive, Question, IsWithin, Overlap, Outcome, Yes, No, Maybe, Overflow}
use Rattle.test_delegates.specs.declared.countdown.Count.{Count}

-- the number below the goal's, as a question
abbrev pub question_below : Count → Question Count
question_below goal = record { kind = Inductive; goal = record { 0 = goal.0 - 1 } }

-- 0 holds, and any other goal holds if the number below does
abbrev pub Proves : Count → List (Question Count) → Type 0
Proves goal held = (goal.0 ≡ 0) ⊎ Contains held (question_below goal)

-- a goal other than 0 does not hold if the number below does not
abbrev pub Refutes : Count → List (Question Count) → Type 0
Refutes goal failed = (0 < goal.0) × Contains failed (question_below goal)

pub proves_more : (goal : Count) (some more : List (Question Count)) → IsWithin some more
    → Proves goal some → Proves goal more
proves_more goal some more within (inl is_zero) = inl is_zero
proves_more goal some more within (inr held) = inr (within (question_below goal) held)

pub refutes_more : (goal : Count) (some more : List (Question Count)) → IsWithin some more
    → Refutes goal some → Refutes goal more
refutes_more goal some more within (above, failed) = (above, within (question_below goal) failed)

pub clash : (goal : Count) (held failed : List (Question Count)) → Proves goal held
    → Refutes goal failed → Overlap held failed
clash goal held failed (inl is_zero) (above, k) = absurd (omega arith)
clash goal held failed (inr h) (above, k) = (question_below goal, h, k)

-- yes if both are yes, no if one is no, and else maybe
abbrev pub both : Outcome → Outcome → Outcome
both Yes Yes = Yes
both No s = No
both Yes No = No
both Maybe No = No
both Overflow No = No
both _ _ = Maybe
