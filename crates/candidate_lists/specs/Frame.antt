-- A frame enters each candidate in order, asks all its questions, and finishes it. Where an unmarked candidate holds,
-- each marked one is then ignored. `question_of` says what each question of a candidate asks.
use Rattle.std.specs.Prelude.{ℕ, Bool, ◌+◌, ◌-◌, nat_le, true, false, not, ◌&&◌, ◌||◌, if◌then◌else◌, List, [], ◌∷◌}
use Rattle.std.specs.Prelude.{length, drop, sum_by, slice_get, Option, Some, None}
use Rattle.std.specs.Option.{unwrap_or}
use Rattle.candidate_lists.specs.Below.{Request, Evaluate, EnterCandidate, FinishCandidate, Ignore, Done, Reply, Begin}
use Rattle.candidate_lists.specs.Below.{Answer, Noted, Outcome, Yes, No, Maybe, Question, is_yes, is_no}
use Rattle.candidate_lists.specs.Candidate.{Candidate}

-- Where a frame stands between two steps: the request that the next reply is to, and none before the first one; the
-- candidate that is open or comes next, and its question that comes next; whether all answers of that candidate so far
-- are yes, and whether one of them is no; what the candidates before it say; and the one from which on none is ignored
-- yet.
pub record State (I : Type 0) : Type 0 where
  pub request : Option (Request I Outcome)
  pub candidate : ℕ
  pub question : ℕ
  pub holds : Bool
  pub fails : Bool
  pub some_holds : Bool
  pub unmarked_holds : Bool
  pub each_fails : Bool
  pub next_ignored : ℕ

-- no reply has come
abbrev pub fresh : {I : Type 0} → State I
fresh = record {
  request = None;
  candidate = 0;
  question = 0;
  holds = true;
  fails = false;
  some_holds = false;
  unmarked_holds = false;
  each_fails = true;
  next_ignored = 0;
}

-- the place of the first marked candidate at or after `from`; the list begins at place `at`
abbrev pub marked_from : {Q : Type 0} → ℕ → List (Candidate Q) → ℕ → Option ℕ
marked_from at [] from = None
marked_from at (c ∷ cs) from = if nat_le from at && c.is_marked then Some at else marked_from (at + 1) cs from

-- the result, once the last candidate is finished
abbrev pub outcome_by : Bool → Bool → Outcome
outcome_by some_holds each_fails = if some_holds then Yes else (if each_fails then No else Maybe)

abbrev pub outcome_of : {I : Type 0} → State I → Outcome
outcome_of s = outcome_by s.some_holds s.each_fails

-- the last candidate is finished, or one was ignored
abbrev pub with_ignored : {I : Type 0} → State I → Option ℕ → State I
with_ignored s None = record s { request = Some (Done (outcome_of s)); question = 0 }
with_ignored s (Some n) = record s { request = Some (Ignore n); question = 0; next_ignored = n + 1 }

abbrev pub ignoring : {Q I : Type 0} → List (Candidate Q) → State I → State I
ignoring cs s = with_ignored s (if s.unmarked_holds then marked_from 0 cs s.next_ignored else None)

-- the frame is between two candidates; the next one begins, if there is one
abbrev pub entering_next : {Q I : Type 0} → List (Candidate Q) → State I → Option (Candidate Q) → State I
entering_next cs s None = ignoring cs s
entering_next cs s (Some c) = record s { request = Some EnterCandidate; question = 0; holds = true; fails = false }

abbrev pub entering : {Q I : Type 0} → List (Candidate Q) → State I → State I
entering cs s = entering_next cs s (slice_get cs s.candidate)

-- the frame is in a candidate; its next question is asked, if there is one
abbrev pub asking_next : {Q I : Type 0} → (Q → Question I) → Candidate Q → State I → Option Q → State I
asking_next question_of c s (Some a) =
    record s { request = Some (Evaluate (question_of a).kind (question_of a).goal); question = s.question + 1 }
asking_next question_of c s None = record s {
  request = Some FinishCandidate;
  candidate = s.candidate + 1;
  some_holds = s.some_holds || s.holds;
  unmarked_holds = s.unmarked_holds || (s.holds && not c.is_marked);
  each_fails = s.each_fails && s.fails;
}

abbrev pub asking_in : {Q I : Type 0} → (Q → Question I) → List (Candidate Q) → State I → Option (Candidate Q) → State I
asking_in question_of cs s None = ignoring cs s
asking_in question_of cs s (Some c) = asking_next question_of c s (slice_get c.questions s.question)

abbrev pub asking : {Q I : Type 0} → (Q → Question I) → List (Candidate Q) → State I → State I
asking question_of cs s = asking_in question_of cs s (slice_get cs s.candidate)

-- one more answer in the open candidate
abbrev pub with_answer : {I : Type 0} → State I → Outcome → State I
with_answer s r = record s { holds = s.holds && is_yes r; fails = s.fails || is_no r }

-- the state after one more reply to the request
abbrev pub state_with : {Q I : Type 0} → (Q → Question I) → List (Candidate Q) → State I
    → Option (Request I Outcome) → Reply Outcome → State I
state_with question_of cs s None Begin = entering cs s
state_with question_of cs s (Some EnterCandidate) Noted = asking question_of cs s
state_with question_of cs s (Some (Evaluate kind goal)) (Answer r) = asking question_of cs (with_answer s r)
state_with question_of cs s (Some FinishCandidate) Noted = entering cs s
state_with question_of cs s (Some (Ignore n)) Noted = ignoring cs s
state_with question_of cs s _ _ = s

-- the request that the state has made
abbrev pub request_of : {I : Type 0} → State I → Request I Outcome
request_of s = unwrap_or s.request EnterCandidate

-- the state after these replies, of which the newest stands first
abbrev pub state_after : {Q I : Type 0} → (Q → Question I) → List (Candidate Q) → List (Reply Outcome) → State I
state_after question_of cs [] = fresh
state_after question_of cs (r ∷ earlier) =
    state_with question_of cs (state_after question_of cs earlier) (state_after question_of cs earlier).request r

-- the request that follows these replies
abbrev pub script_of : {Q I : Type 0} → (Q → Question I) → List (Candidate Q) → List (Reply Outcome) → Request I Outcome
script_of question_of cs replies = request_of (state_after question_of cs replies)

-- the steps that a candidate takes at most
abbrev pub steps_of : {Q : Type 0} → Candidate Q → ℕ
steps_of c = length c.questions + 3

-- the steps that a frame of these candidates takes at most
abbrev pub steps_for : {Q : Type 0} → List (Candidate Q) → ℕ
steps_for cs = sum_by steps_of cs + length cs + 2

abbrev pub questions_left : {Q : Type 0} → Option (Candidate Q) → ℕ → ℕ
questions_left None question = 0
questions_left (Some c) question = length c.questions - question

-- how many steps a frame has left at most
abbrev pub steps_left : {Q I : Type 0} → List (Candidate Q) → State I → Option (Request I Outcome) → ℕ
steps_left cs s None = sum_by steps_of cs + length cs + 2
steps_left cs s (Some EnterCandidate) =
    questions_left (slice_get cs s.candidate) 0 + sum_by steps_of (drop (s.candidate + 1) cs) + length cs + 4
steps_left cs s (Some (Evaluate kind goal)) =
    questions_left (slice_get cs s.candidate) s.question + sum_by steps_of (drop (s.candidate + 1) cs) + length cs + 3
steps_left cs s (Some FinishCandidate) = sum_by steps_of (drop s.candidate cs) + length cs + 2
steps_left cs s (Some (Ignore n)) = length cs - s.next_ignored + 1
steps_left cs s (Some (Done r)) = 0
