-- The frames of goals that count down: one question or two, and then what the answers come to as the result.
use Rattle.std.specs.Prelude.{◌≡◌, ◌==◌, ℕ, Bool, true, false, List, [], ◌∷◌}
use Rattle.test_delegates.specs.Below.{Request, Evaluate, Done, Reply, Begin, Answer, Noted, Outcome, Yes, Maybe}
use Rattle.test_delegates.specs.declared.countdown.Count.{Count}
use Rattle.test_delegates.specs.declared.countdown.Countdown.{Countdown}
use Rattle.test_delegates.specs.declared.countdown.Stage.{Stage}
use Rattle.test_delegates.specs.declared.countdown.Stage.TheVariants.{New, Once, Twice, Over}
use Rattle.test_delegates.specs.declared.countdown.Frame.{Frame}
use Rattle.test_delegates.specs.Countdown.{both, question_below}

abbrev pub next_stage : Stage → Stage
next_stage New = Once
next_stage Once = Twice
next_stage Twice = Over
next_stage Over = Over

abbrev pub steps_left : Stage → ℕ
steps_left New = 3
steps_left Once = 2
steps_left Twice = 1
steps_left Over = 0

-- the question of a goal as a request
abbrev pub asks_below : Count → Request Count Outcome
asks_below goal = Evaluate (question_below goal).kind (question_below goal).goal

-- the request of a frame whose answers so far come to this; 0 asks nothing
abbrev pub request_of : (is_zero asks_twice : Bool) → Count → Stage → Outcome → Request Count Outcome
request_of true asks_twice goal stage so_far = Done Yes
request_of false asks_twice goal New so_far = asks_below goal
request_of false true goal Once so_far = asks_below goal
request_of false false goal Once so_far = Done so_far
request_of false asks_twice goal Twice so_far = Done so_far
request_of false asks_twice goal Over so_far = Done so_far

abbrev pub request_at : Bool → Count → Stage → Outcome → Request Count Outcome
request_at asks_twice goal stage so_far = request_of (goal.0 == 0) asks_twice goal stage so_far

abbrev pub stage_after : List (Reply Outcome) → Stage
stage_after [] = New
stage_after (r ∷ []) = Once
stage_after (r ∷ q ∷ []) = Twice
stage_after (r ∷ q ∷ p ∷ earlier) = Over

-- what the answers so far come to, with one more reply
abbrev pub with_reply : Outcome → Reply Outcome → Outcome
with_reply so_far (Answer r) = both so_far r
with_reply so_far Begin = so_far
with_reply so_far Noted = so_far

abbrev pub outcome_after : List (Reply Outcome) → Outcome
outcome_after [] = Yes
outcome_after (r ∷ earlier) = with_reply (outcome_after earlier) r

-- the request after these replies, and before the first one none that counts
abbrev pub script_of : (is_zero asks_twice : Bool) → Count → List (Reply Outcome) → Request Count Outcome
script_of is_zero asks_twice goal [] = Done Maybe
script_of is_zero asks_twice goal (r ∷ earlier) =
    request_of is_zero asks_twice goal (stage_after earlier) (outcome_after (r ∷ earlier))

abbrev pub count_script : Countdown → Count → List (Reply Outcome) → Request Count Outcome
count_script cx goal = script_of (goal.0 == 0) cx.asks_twice goal

pub record Stands (frame : Frame) (cx : Countdown) (goal : Count) (replies : List (Reply Outcome)) : Type 0 where
  pub same_context : frame.asks_twice ≡ cx.asks_twice
  pub same_goal : frame.goal ≡ goal
  pub same_stage : frame.stage ≡ stage_after replies
  pub same_outcome : frame.outcome ≡ outcome_after replies
