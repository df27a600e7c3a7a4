-- Which limits a call meets: a question is refused, since the goal that asks has no depth left, or a goal has had its
-- most runs and its result isn't stable.
use Rattle.std.specs.Prelude.{◌||◌, ℕ, Bool, true, false, Result}
use Rattle.std.specs.Option.{is_none}
use Rattle.run_records.specs.declared.runs.Fate.{Fate}
use Rattle.search_context.specs.declared.context.Answer.{Answer}
use Rattle.search_ends.specs.RunEnded.{EndedAtLimit, EndedDone, NotRunAgain, RanAgain}
use Rattle.search_ends.specs.Words.{RunEnds}
use Rattle.search_graph.specs.Below.{Cache, CxOf, DelegateOf, Fault, Next, PathKind, Received}
use Rattle.search_graph.specs.Called.{Called, Evaluated, HasRun, WasStored, WasWorkedOut}
use Rattle.search_graph.specs.Ran.{Advanced, Answered, Asked, Began, Failed, FailedForGood, FrameFailed, GoesOn}
use Rattle.search_graph.specs.Ran.{NotAnswered, NotAsked, NotBegun, Noted, NotNoted, Ran, RunEnded, Then, Turned}
use Rattle.search_questions.specs.Words.{question_depth}
use Rattle.search_state.specs.declared.evaluation.Evaluation.{Evaluation}

-- whether a question was refused, and whether a goal had its most runs
pub record LimitsMet : Type 0 where
  pub refused : Bool
  pub most_runs : Bool

abbrev pub no_limits_met : LimitsMet
no_limits_met = record { refused = false; most_runs = false }

-- the limits that were met first or then
abbrev pub met_either : LimitsMet → LimitsMet → LimitsMet
met_either first then =
    record { refused = first.refused || then.refused; most_runs = first.most_runs || then.most_runs }

module _ {D C V P F I R A T : Type 0} {G : DelegateOf D C V P F I R A T} {X : CxOf C I R A T}
    {same : I → I → Bool} {same_result : R → R → Bool} where
  -- the end of a run meets one where its goal has had its most runs,
  abbrev pub met_at_end : {outcome : R} {old : Cache C I R T} {e : Evaluation D C V P F I R A T} {starts : ℕ}
      {result : Result (Next R) (Fault I R)} {new : Cache C I R T} {after : Evaluation D C V P F I R A T} {later : ℕ}
      → RunEnds G X same same_result outcome old e starts result new after later → LimitsMet
  met_at_end (EndedDone entry run reason result new after comes pop) = no_limits_met
  met_at_end (EndedAtLimit entry run result new after comes pop) = record { refused = false; most_runs = true }
  met_at_end (RanAgain entry run new after later comes keeps reran counted) = no_limits_met
  met_at_end (NotRunAgain entry run new after later comes keeps) = no_limits_met

  module _ {noop : Bool} where
    -- and a question where it has no depth, whether memory is out or not;
    abbrev pub met_by_move : {received : Received R} {old : Cache C I R T} {e : Evaluation D C V P F I R A T}
        {starts : ℕ} {result : Result (Next R) (Fault I R)} {new : Cache C I R T}
        {after : Evaluation D C V P F I R A T} {later : ℕ}
        → Advanced G X same same_result noop received old e starts result new after later → LimitsMet
    met_by_move (FrameFailed fault goals failed) = no_limits_met
    met_by_move {e = e} (Asked kind goal goals given new after later stepped asking asks) =
        record { refused = is_none (question_depth G (record e { goals = goals })); most_runs = false }
    met_by_move {e = e} (NotAsked kind goal goals new after later stepped fails asks) =
        record { refused = is_none (question_depth G (record e { goals = goals })); most_runs = false }
    met_by_move (RunEnded outcome goals result new after later stepped runs ends) = met_at_end ends
    met_by_move (Noted request goals noted stepped about notes) = no_limits_met
    met_by_move (NotNoted request goals left stepped) = no_limits_met

    -- so a turn meets those of its move, and a call those of its turns.
    abbrev pub met_by_turn : {received : Received R} {old : Cache C I R T} {e : Evaluation D C V P F I R A T}
        {starts : ℕ} {result : Result (Next R) (Fault I R)} {new : Cache C I R T}
        {after : Evaluation D C V P F I R A T} {later : ℕ}
        → Turned G X same same_result noop received old e starts result new after later → LimitsMet
    met_by_turn (GoesOn given mid new between after later advanced goes is first stored) = met_by_move advanced
    met_by_turn (Answered answer mid new after later advanced goes) = met_by_move advanced
    met_by_turn (NotAnswered answer new after later advanced) = met_by_move advanced
    met_by_turn (Failed fault mid new between after later advanced goes is) = met_by_move advanced
    met_by_turn (FailedForGood fault new between after later advanced is) = met_by_move advanced

    abbrev pub met_in_turns : {kind : PathKind} {goal : I} {fate : Fate R} {old : Cache C I R T}
        {e : Evaluation D C V P F I R A T} {starts : ℕ} {result : Result (Next R) (Fault I R)} {new : Cache C I R T}
        {after : Evaluation D C V P F I R A T} {later : ℕ}
        → Ran G X same same_result noop kind goal fate old e starts result new after later → LimitsMet
    met_in_turns (Began goals held nodes later pushes fates holds nodes_kept one counted) = no_limits_met
    met_in_turns (NotBegun goals held later least one) = no_limits_met
    met_in_turns (Then given mid between now result new after later ran turned) =
        met_either (met_in_turns ran) (met_by_turn turned)

    abbrev pub met_in_evaluation : {looks_up : Bool} {kind : PathKind} {goal : I} {old : Cache C I R T}
        {e : Evaluation D C V P F I R A T} {starts : ℕ} {result : Result (Answer R) (Fault I R)} {new : Cache C I R T}
        {after : Evaluation D C V P F I R A T} {later : ℕ}
        → Evaluated G X same same_result noop looks_up kind goal old e starts result new after later → LimitsMet
    met_in_evaluation (WasStored hit found usable) = no_limits_met
    met_in_evaluation (WasWorkedOut result new after later none fated ran) = met_in_turns ran

  -- the limits that the call met
  abbrev pub limits_met_in : {call : Called C I R A T} → HasRun G X same same_result call → LimitsMet
  limits_met_in ran = met_in_evaluation ran.evaluated
