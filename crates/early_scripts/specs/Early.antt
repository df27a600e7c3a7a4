-- A frame asks the questions of one candidate after the other. It leaves a candidate at its first answer that is not
-- yes, and the goal at its first candidate that holds.
use Rattle.std.specs.Prelude.{◌≡◌, ℕ, ◌+◌, ◌-◌, Bool, true, false, if◌then◌else◌, List, [], ◌∷◌, length, drop, sum_by}
use Rattle.std.specs.Prelude.{slice_get, Option, Some, None}
use Rattle.early_scripts.specs.Below.{Request, Evaluate, Done, Reply, Begin, Answer, Noted, Outcome, Yes, No, Maybe}
use Rattle.early_scripts.specs.Below.{Overflow, Goal, Asking, Candidate, Rules, Table, candidates_of}
use Rattle.rule_tables.specs.Candidate.{candidates_with}
use Rattle.early_scripts.specs.declared.early.State.{State}
use Rattle.early_scripts.specs.declared.early.EarlyFrame.{EarlyFrame}

-- no reply has come
abbrev pub fresh : State
fresh = record { begun = false; candidate = 0; question = 0; each_fails = true }

-- a yes leads to the candidate's next question, and another answer to the next candidate
abbrev pub moved : State → Outcome → State
moved s Yes = record s { question = s.question + 1 }
moved s No = record s { candidate = s.candidate + 1; question = 0 }
moved s Maybe = record s { candidate = s.candidate + 1; question = 0; each_fails = false }
moved s Overflow = record s { candidate = s.candidate + 1; question = 0; each_fails = false }

abbrev pub moved_from : State → Option Asking → Outcome → State
moved_from s None r = s
moved_from s (Some a) r = moved s r

abbrev pub moved_in : State → Option Candidate → Outcome → State
moved_in s None r = s
moved_in s (Some c) r = moved_from s (slice_get c.questions s.question) r

-- the state after an answer, if one was awaited
abbrev pub with_answer : List Candidate → State → Outcome → State
with_answer cs s r = moved_in s (slice_get cs s.candidate) r

-- the state after one more reply
abbrev pub with_reply : List Candidate → State → Reply Outcome → State
with_reply cs s Begin = record s { begun = true }
with_reply cs s (Answer r) = with_answer cs s r
with_reply cs s Noted = s

-- the candidate's question is asked, if there is one; else the candidate holds
abbrev pub request_in : Option Asking → Request Goal Outcome
request_in None = Done Yes
request_in (Some a) = Evaluate a.kind a.goal

-- without a candidate no one holds
abbrev pub request_at : (each_fails : Bool) → Option Candidate → ℕ → Request Goal Outcome
request_at each_fails None question = Done (if each_fails then No else Maybe)
request_at each_fails (Some c) question = request_in (slice_get c.questions question)

-- the request of a frame in this state
abbrev pub request_of : List Candidate → State → Request Goal Outcome
request_of cs s = request_at s.each_fails (slice_get cs s.candidate) s.question

-- the state after these replies, of which the newest stands first
abbrev pub state_after : List Candidate → List (Reply Outcome) → State
state_after cs [] = fresh
state_after cs (r ∷ earlier) = with_reply cs (state_after cs earlier) r

-- the request that follows these replies
abbrev pub script_of : List Candidate → List (Reply Outcome) → Request Goal Outcome
script_of cs replies = request_of cs (state_after cs replies)

abbrev pub questions_in : Candidate → ℕ
questions_in c = length c.questions

-- how many steps a frame has left at most
abbrev pub steps_left : List Candidate → State → ℕ
steps_left cs s = (if s.begun then 0 else 1) + (sum_by questions_in (drop s.candidate cs) - s.question)

-- how many steps a frame of any goal has at most
abbrev pub steps_within : Rules → ℕ
steps_within rules = 1 + sum_by questions_in (candidates_with rules.askings.items rules.rows.items)

-- `rules_of` gives the rules that a lender lends.
abbrev pub early_script : {T : Type 0} → (T → Rules) → Table T → Goal → List (Reply Outcome) → Request Goal Outcome
early_script rules_of cx goal = script_of (candidates_of (rules_of cx.lender) goal)

-- where a frame stands
pub record EarlyFrameStands {T : Type 0} (rules_of : T → Rules) (frame : EarlyFrame T) (cx : Table T) (goal : Goal)
    (replies : List (Reply Outcome)) : Type 0 where
  pub same_rules : rules_of frame.lender ≡ rules_of cx.lender
  pub same_goal : frame.goal ≡ goal
  pub state : frame.state ≡ state_after (candidates_of (rules_of cx.lender) goal) replies

abbrev pub frame_left : {T : Type 0} → (T → Rules) → EarlyFrame T → ℕ
frame_left rules_of frame = steps_left (candidates_of (rules_of frame.lender) frame.goal) frame.state
