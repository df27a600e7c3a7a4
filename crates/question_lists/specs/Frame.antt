-- A frame asks a goal's questions in order, until one answer is enough or no question is left.
use Rattle.std.specs.Prelude.{ℕ, ◌+◌, ◌-◌, Bool, true, false, ◌&&◌, ◌||◌, if◌then◌else◌, List, [], ◌∷◌, slice_get}
use Rattle.std.specs.Prelude.{Option, Some, None}
use Rattle.question_lists.specs.Below.{Question, Request, Evaluate, Done, Reply, Begin, Answer, Noted, Outcome, Maybe}
use Rattle.question_lists.specs.declared.needs.Needs.{Needs}
use Rattle.question_lists.specs.declared.frame.State.{State}
use Rattle.question_lists.specs.Needs.{is_enough, is_filling, early_outcome, full_outcome}

-- no reply has come
abbrev pub fresh : State
fresh = record { begun = false; place = 0; has_enough = false; is_full = true }

-- the state after one more reply
abbrev pub with_reply : Needs → State → Reply Outcome → State
with_reply needs s Begin = record s { begun = true }
with_reply needs s (Answer r) = record s {
  place = s.place + 1;
  has_enough = s.has_enough || is_enough needs r;
  is_full = s.is_full && is_filling needs r;
}
with_reply needs s Noted = s

-- the result by the answers so far
abbrev pub outcome_of : Needs → State → Outcome
outcome_of needs s = if s.has_enough then early_outcome needs else (if s.is_full then full_outcome needs else Maybe)

-- the place of the next question, unless some answer is enough
abbrev pub next_place : State → Option ℕ
next_place s = if s.has_enough then None else Some s.place

-- the question is asked, if there is one
abbrev pub request_for : {I : Type 0} → Outcome → Option (Question I) → Request I Outcome
request_for so_far None = Done so_far
request_for so_far (Some q) = Evaluate q.kind q.goal

-- the next question, unless some answer is enough
abbrev pub next_question : {I : Type 0} → List (Question I) → (has_enough : Bool) (place : ℕ) → Option (Question I)
next_question questions has_enough place = if has_enough then None else slice_get questions place

-- the request of a frame in this state
abbrev pub request_of : {I : Type 0} → Needs → List (Question I) → State → Request I Outcome
request_of needs questions s = request_for (outcome_of needs s) (next_question questions s.has_enough s.place)

-- the state after these replies, of which the newest stands first
abbrev pub state_after : Needs → List (Reply Outcome) → State
state_after needs [] = fresh
state_after needs (r ∷ earlier) = with_reply needs (state_after needs earlier) r

-- the request that follows these replies
abbrev pub script_of : {I : Type 0} → Needs → List (Question I) → List (Reply Outcome) → Request I Outcome
script_of needs questions replies = request_of needs questions (state_after needs replies)

-- how many steps a frame of so many questions has left at most
abbrev pub steps_left : ℕ → State → ℕ
steps_left count s = (if s.begun then 0 else 1) + (count - s.place)
