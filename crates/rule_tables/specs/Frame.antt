-- The frame of a goal of a table: that of `candidate_lists`, which takes each question of a candidate for what it asks.
use Rattle.std.specs.Prelude.{ℕ, ◌+◌, List, length, sum_by, Option}
use Rattle.candidate_lists.specs.Frame as lists
use Rattle.rule_tables.specs.Below.{Request, Reply, Outcome}
use Rattle.rule_tables.specs.declared.rules.Asking.{Asking}
use Rattle.rule_tables.specs.declared.rules.Goal.{Goal}
use Rattle.rule_tables.specs.declared.rules.Rules.{Rules}
use Rattle.rule_tables.specs.Candidate.{Candidate, candidates_with}
use Rattle.rule_tables.specs.Rules.{question_of}
pub use Rattle.candidate_lists.specs.Frame.{entering, entering_next, ignoring, marked_from, request_of, steps_of}
pub use Rattle.candidate_lists.specs.Frame.{with_answer, with_ignored}

-- where a frame stands between two steps
abbrev pub State : Type 0
State = lists.State Goal

abbrev pub asking_next : Candidate → State → Option Asking → State
asking_next = lists.asking_next question_of

abbrev pub asking_in : List Candidate → State → Option Candidate → State
asking_in = lists.asking_in question_of

-- the frame is in a candidate; its next question is asked, if there is one
abbrev pub asking : List Candidate → State → State
asking = lists.asking question_of

-- the state after one more reply to the request
abbrev pub state_with : List Candidate → State → Option (Request Goal Outcome) → Reply Outcome → State
state_with = lists.state_with question_of

-- the state after these replies, of which the newest stands first
abbrev pub state_after : List Candidate → List (Reply Outcome) → State
state_after = lists.state_after question_of

-- the request that follows these replies
abbrev pub script_of : List Candidate → List (Reply Outcome) → Request Goal Outcome
script_of = lists.script_of question_of

-- how many steps a frame of any goal has at most
abbrev pub steps_within : Rules → ℕ
steps_within rules =
    sum_by steps_of (candidates_with rules.askings.items rules.rows.items) + length rules.rows.items + 2
