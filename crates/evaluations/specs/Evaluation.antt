-- An evaluation as a whole: its moves, and what holds between them. In each state the newest frame is about to take a
-- step, with its newest reply.
use Rattle.std.specs.Prelude.{◌≡◌, ℕ, ◌+◌, ◌<◌, ◌≤◌, Bool, true, false, List, [], ◌∷◌, ◌⊎◌}
use Rattle.evaluations.specs.Below.{Request, Reply, Begin, CountsOne, IsPlainValue, IsPlainTo, request_after, IsReplyTo}
use Rattle.evaluations.specs.Frames.{Frame, Outcome, fresh, stepped, replied, answered, refused, run_again}
use Rattle.evaluations.specs.Frames.{Asks, IsAllowed}
use Rattle.evaluations.specs.Plain.{IsSafeOutcome, AreSafe, LeavesOutcome, HaveRoom, IsOnStack}
use Rattle.evaluations.specs.Starts.{StaysWithin, steps_ahead}
use Rattle.evaluations.specs.Price.{HasCounted, IsPrice, IsPriced, IsPaid}
use Rattle.evaluations.specs.Enclosed.{IsEnclosed, StayEnclosed}

-- the frames, the starts that were counted, and whether a limit was met
pub record State (I R : Type 0) : Type 0 where
  pub frames : List (Frame I R)
  pub starts : ℕ
  pub limits_met : Bool

-- the state with these
abbrev pub at : {I R : Type 0} → List (Frame I R) → ℕ → Bool → State I R
at frames starts limits_met = record { frames = frames; starts = starts; limits_met = limits_met }

-- the limits of an evaluation: runs of a goal, steps of a frame, depth of the root, where the count of starts ends, and
-- what it was before; and goals of which no overflow result was stored before
pub record Limits (I : Type 0) : Type 0 where
  pub runs : ℕ
  pub width : ℕ
  pub root : ℕ
  pub last : ℕ
  pub before : ℕ
  pub goals : List I

-- a frame was started; where starts are counted, it counts one
pub record IsStarted (last : ℕ) (is_counted : Type 0) (starts now : ℕ) : Type 0 where
  pub at_most : now ≤ starts + 1
  pub exactly : is_counted → CountsOne last starts now

-- the oldest frame has this goal and this depth
abbrev pub IsRooted : {I R : Type 0} → I → ℕ → List (Frame I R) → Type 0
IsRooted top root [] = ⊥
IsRooted top root (f ∷ []) = (f.goal ≡ top) × (f.available ≡ root)
IsRooted top root (f ∷ g ∷ below) = IsRooted top root (g ∷ below)

-- An evaluation of the goal `top`. `is_counted`: each start counts one, and before the evaluation no limit was met and
-- no overflow result was stored that it may use.
module _ {I R : Type 0} (scripts : I → List (Reply R) → Request I R) (limits : Limits I)
    (is_counted : Type 0) (top : I) where
  -- no question leads out of the goals of which no overflow result was stored, and there is depth enough for them
  abbrev pub EvaluationIsEnclosed : Type 0
  EvaluationIsEnclosed = IsEnclosed scripts limits.goals limits.root top

  -- no overflow is met as long as this holds: starts are counted and no limit is met, or the evaluation is enclosed
  abbrev pub MeetsNone : (limits_met : Bool) → Type 0
  MeetsNone limits_met = (is_counted × (limits_met ≡ false)) ⊎ EvaluationIsEnclosed

  -- One move of an evaluation: a question is pushed, or answered, or refused at depth 0; a candidate begins, ends or is
  -- ignored; a run ends, and its goal is run again or popped.
  pub data Move : State I R → State I R → Type 0 where
    Pushed :
        {f : Frame I R} {below : List (Frame I R)} {goal : I} {depth left first starts now : ℕ} {met : Bool}
        → left < f.left → Asks scripts f goal → IsAllowed f depth → (IsOnStack scripts goal (f ∷ below) → ⊥)
        → first ≤ limits.width → IsStarted limits.last is_counted starts now
        → Move (at (f ∷ below) starts met)
        (at (replied (fresh goal depth first) Begin ∷ stepped f left ∷ below) now met)
    Noted :
        {f : Frame I R} {below : List (Frame I R)} {left starts : ℕ} {met : Bool} {reply : Reply R}
        → left < f.left → IsReplyTo (λ _ _. ⊥) (request_after (scripts f.goal) f.replies) reply
        → Move (at (f ∷ below) starts met) (at (replied (stepped f left) reply ∷ below) starts met)
    Answered :
        {f : Frame I R} {below : List (Frame I R)} {goal : I} {depth left starts : ℕ} {met : Bool} {o : Outcome R}
        → left < f.left → Asks scripts f goal → IsAllowed f depth → IsSafeOutcome scripts goal depth o
        → (MeetsNone met → o.met_overflow ≡ false)
        → Move (at (f ∷ below) starts met) (at (answered (stepped f left) o ∷ below) starts met)
    Refused :
        {f : Frame I R} {below : List (Frame I R)} {goal : I} {left starts : ℕ} {met : Bool} {r : R}
        → left < f.left → Asks scripts f goal → f.available ≡ 0
        → Move (at (f ∷ below) starts met) (at (refused (stepped f left) r ∷ below) starts true)
    RunAgain :
        {f : Frame I R} {below : List (Frame I R)} {left first starts now : ℕ} {met : Bool}
        → left < f.left → f.finished_runs + 1 < limits.runs → first ≤ limits.width
        → IsStarted limits.last is_counted starts now
        → Move (at (f ∷ below) starts met) (at (replied (run_again (stepped f left) first) Begin ∷ below) now met)
    Popped :
        {child f : Frame I R} {below : List (Frame I R)} {left starts : ℕ} {met : Bool} {o : Outcome R}
        → left < child.left → LeavesOutcome scripts child o
        → Move (at (child ∷ f ∷ below) starts met) (at (answered f o ∷ below) starts met)
    PoppedAtLimit :
        {child f : Frame I R} {below : List (Frame I R)} {left starts : ℕ} {met : Bool} {o : Outcome R}
        → left < child.left → LeavesOutcome scripts child o → limits.runs ≤ child.finished_runs + 1
        → Move (at (child ∷ f ∷ below) starts met) (at (answered f o ∷ below) starts true)

  -- what holds between two moves of the evaluation
  pub record IsEvaluating (bound : ℕ) (s : State I R) : Type 0 where
    pub rooted : IsRooted top limits.root s.frames
    pub safe : AreSafe scripts s.frames
    pub room : (n : ℕ) → IsPlainTo scripts n top → n ≤ limits.root → HaveRoom scripts s.frames
    pub within : StaysWithin limits.runs limits.width bound s.starts s.frames
    pub enclosed : EvaluationIsEnclosed → StayEnclosed scripts limits.goals limits.root s.frames
    pub priced : (price : ℕ) → IsPrice limits.runs limits.root EvaluationIsEnclosed price → is_counted
        → IsPriced price limits.root limits.last limits.before s.starts s.limits_met s.frames

  -- what a loop over the moves needs of each
  pub record GoesOn (bound : ℕ) (old new : State I R) : Type 0 where
    pub evaluating : IsEvaluating bound new
    pub falls : steps_ahead limits.runs limits.width new.frames < steps_ahead limits.runs limits.width old.frames

  -- the promises at the end
  pub record Ends (bound starts : ℕ) (limits_met : Bool) (o : Outcome R) : Type 0 where
    pub safe : IsSafeOutcome scripts top limits.root o
    pub plain : (n : ℕ) → IsPlainTo scripts n top → n ≤ limits.root
        → IsPlainValue scripts n top o.result × (o.met_overflow ≡ false) × (o.in_cycle ≡ false)
    pub within : starts ≤ bound
    pub paid : is_counted → limits_met ≡ true → IsPaid limits.runs limits.root limits.last limits.before starts
    pub by_runs : is_counted → EvaluationIsEnclosed → limits_met ≡ true
        → HasCounted limits.last limits.before starts limits.runs

  -- the promises of an evaluation that stops with a fault
  pub record Stops (bound starts : ℕ) (limits_met : Bool) : Type 0 where
    pub within : starts ≤ bound
    pub paid : is_counted → limits_met ≡ true → IsPaid limits.runs limits.root limits.last limits.before starts
    pub by_runs : is_counted → EvaluationIsEnclosed → limits_met ≡ true
        → HasCounted limits.last limits.before starts limits.runs
