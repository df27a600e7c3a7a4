-- Goals with scripts: the requests of a goal, whatever it is replied, and the laws of such goals.
use Rattle.std.specs.Prelude.{◌≡◌, ◌-◌, nat_lt, ℕ, true, ◌&&◌, if◌then◌else◌, List, [], ◌∷◌, length, slice_index_or}
use Rattle.std.specs.Prelude.{Some, ⊤}
use Rattle.std.proofs.Common.{subst, sym}
use Rattle.test_delegates.specs.Below.{Request, Evaluate, EnterCandidate, FinishCandidate, Ignore, Done, Reply}
use Rattle.test_delegates.specs.Below.{Question, Overlap, EndsIn, progress_after, questions_answered, Outcome, Yes}
use Rattle.test_delegates.specs.Below.{is_yes, is_no}
use Rattle.test_delegates.specs.Requests.{done, nothing_done}
use Rattle.test_delegates.specs.declared.scripts.Goal.{Goal}
use Rattle.test_delegates.specs.declared.scripts.Line.{Line}
use Rattle.test_delegates.specs.declared.scripts.Line.TheVariants.{Evaluate as Asks, EnterCandidate as Enters}
use Rattle.test_delegates.specs.declared.scripts.Line.TheVariants.{FinishCandidate as Finishes, Ignore as Ignores, End}
use Rattle.test_delegates.specs.declared.scripts.Scripts.{Scripts}
use Rattle.test_delegates.specs.declared.scripts.Frame.{Frame}

-- each goal holds, whatever holds beside it
abbrev pub Proves : Scripts → Goal → List (Question Goal) → Type 0
Proves cx goal held = ⊤

abbrev pub Refutes : Scripts → Goal → List (Question Goal) → Type 0
Refutes cx goal failed = ⊥

pub clash : (cx : Scripts) (goal : Goal) (held failed : List (Question Goal)) → Proves cx goal held
    → Refutes cx goal failed → Overlap held failed
clash cx goal held failed proved refuted = absurd refuted

abbrev pub request_of : Line → Request Goal Outcome
request_of (Asks kind goal) = Evaluate kind goal
request_of Enters = EnterCandidate
request_of Finishes = FinishCandidate
request_of (Ignores candidate) = Ignore candidate
request_of End = Done Yes

-- the line at this place of the goal's script; there are three scripts of five lines
abbrev pub line_at : Scripts → Goal → ℕ → Line
line_at cx goal place =
    if nat_lt goal.0 3 && nat_lt place 5 then slice_index_or (slice_index_or cx.lines goal.0 []) place End else End

-- the request after these replies, and before the first one none that counts
abbrev pub script_of : Scripts → Goal → List (Reply Outcome) → Request Goal Outcome
script_of cx goal [] = Done Yes
script_of cx goal (r ∷ earlier) = request_of (line_at cx goal (length earlier))

-- the steps of a frame whose next line stands here; one step more than there are lines gives the result
abbrev pub lines_left : ℕ → ℕ
lines_left place = 6 - place

pub record Stands (frame : Frame) (cx : Scripts) (goal : Goal) (replies : List (Reply Outcome)) : Type 0 where
  pub same_scripts : frame.scripts ≡ cx
  pub same_goal : frame.goal ≡ goal
  pub same_place : frame.place ≡ length replies

pub yes_is_proved : (cx : Scripts) (goal : Goal) (replies : List (Reply Outcome)) (r : Outcome)
    → EndsIn (script_of cx goal) replies r → is_yes r ≡ true
    → Proves cx goal (questions_answered is_yes (progress_after (script_of cx goal) replies))
yes_is_proved cx goal replies r ends is = tt

-- a line gives no result but yes
result_is_yes : (line : Line) (r : Outcome) → Some (request_of line) ≡ done Goal r → is_no r ≡ true → ⊥
result_is_yes (Asks kind goal) r e is = absurd cc
result_is_yes Enters r e is = absurd cc
result_is_yes Finishes r e is = absurd cc
result_is_yes (Ignores candidate) r e is = absurd cc
result_is_yes End r e is =
    let same : Yes ≡ r = cc in let none : is_no Yes ≡ true = subst (λ v. is_no v ≡ true) (sym same) is in absurd cc

pub no_is_refuted : (cx : Scripts) (goal : Goal) (replies : List (Reply Outcome)) (r : Outcome)
    → EndsIn (script_of cx goal) replies r → is_no r ≡ true
    → Refutes cx goal (questions_answered is_no (progress_after (script_of cx goal) replies))
no_is_refuted cx goal [] r ends is = nothing_done Goal r ends.is_done
no_is_refuted cx goal (x ∷ earlier) r ends is = result_is_yes (line_at cx goal (length earlier)) r ends.is_done is
