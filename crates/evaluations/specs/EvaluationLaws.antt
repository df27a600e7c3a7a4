-- The theorems on an evaluation as a whole.
use Rattle.std.specs.Prelude.{◌≡◌, ℕ, ◌+◌, ◌<◌, ◌≤◌, Bool, true, false, List, [], ◌∷◌, Contains, None}
use Rattle.evaluations.specs.Below.{Request, Reply, Begin, frames_within, IsPlainTo, fault_after}
use Rattle.evaluations.specs.Frames.{Frame, Outcome, fresh, replied, Asks}
use Rattle.evaluations.specs.Plain.{LeavesOutcome}
use Rattle.evaluations.specs.Starts.{Spends}
use Rattle.evaluations.specs.Evaluation.{State, at, Limits, EvaluationIsEnclosed, IsStarted, Move, IsEvaluating, GoesOn}
use Rattle.evaluations.specs.Evaluation.{Ends, Stops}

module _ {I R : Type 0} (scripts : I → List (Reply R) → Request I R) where
  -- An evaluation begins with its root.
  abbrev pub RootIsEvaluating : Type 0
  RootIsEvaluating =
      (limits : Limits I) (counted : Bool) (top : I) (first now : ℕ) (met : Bool)
      → 1 ≤ limits.runs → first ≤ limits.width → IsStarted limits.last (counted ≡ true) limits.before now
      → (counted ≡ true → met ≡ false)
      → IsEvaluating scripts limits (counted ≡ true) top
      (limits.before + frames_within limits.runs limits.width limits.root)
      (at (replied (fresh top limits.root first) Begin ∷ []) now met)

  -- It goes on by every move, with fewer steps ahead.
  abbrev pub MoveGoesOn : Type 0
  MoveGoesOn =
      (limits : Limits I) (counted : Bool) (top : I) (bound : ℕ) (old new : State I R)
      → 1 ≤ limits.runs → Move scripts limits (counted ≡ true) top old new
      → IsEvaluating scripts limits (counted ≡ true) top bound old
      → GoesOn scripts limits (counted ≡ true) top bound old new

  -- It ends with a safe outcome, which is the plain value of a root whose rank fits; with no more starts than the
  -- bound; and with the price of a limit that was met.
  abbrev pub LastFrameEnds : Type 0
  LastFrameEnds =
      (limits : Limits I) (counted : Bool) (top : I) (bound starts : ℕ) (met : Bool) (f : Frame I R) (o : Outcome R)
      → LeavesOutcome scripts f o → IsEvaluating scripts limits (counted ≡ true) top bound (at (f ∷ []) starts met)
      → Ends scripts limits (counted ≡ true) top bound starts met o

  -- It keeps its promises also where its last run meets the limit.
  abbrev pub LastRunEnds : Type 0
  LastRunEnds =
      (limits : Limits I) (counted : Bool) (top : I) (bound starts : ℕ) (met : Bool) (f : Frame I R) (o : Outcome R)
      → limits.runs ≤ f.finished_runs + 1 → LeavesOutcome scripts f o
      → IsEvaluating scripts limits (counted ≡ true) top bound (at (f ∷ []) starts met)
      → Ends scripts limits (counted ≡ true) top bound starts true o

  -- It keeps the bound and the price where it stops with a fault, at any time.
  abbrev pub EvaluationStops : Type 0
  EvaluationStops =
      (limits : Limits I) (counted : Bool) (top : I) (bound : ℕ) (s : State I R)
      → IsEvaluating scripts limits (counted ≡ true) top bound s
      → Stops scripts limits (counted ≡ true) top bound s.starts s.limits_met

  -- It keeps them where a start fails, whether that was counted or not.
  abbrev pub FailedStartStops : Type 0
  FailedStartStops =
      (limits : Limits I) (counted : Bool) (top : I) (bound now : ℕ) (s : State I R) (new : List (Frame I R))
      → Spends limits.runs limits.width 1 s.frames new → s.starts ≤ now → now ≤ s.starts + 1
      → IsEvaluating scripts limits (counted ≡ true) top bound s
      → Stops scripts limits (counted ≡ true) top bound now s.limits_met

  -- Where the root's rank fits its depth, no question comes at depth 0, no overflow and no cycle is met, and no
  -- request is out of order.
  abbrev pub FittingMeetsNoLimit : Type 0
  FittingMeetsNoLimit =
      (limits : Limits I) (counted : Bool) (top : I) (bound n : ℕ) (f : Frame I R)
      (below : List (Frame I R)) (starts : ℕ) (met : Bool)
      → IsPlainTo scripts n top → n ≤ limits.root
      → IsEvaluating scripts limits (counted ≡ true) top bound (at (f ∷ below) starts met)
      → ((goal : I) → Asks scripts f goal → 0 < f.available) × (f.in_cycle ≡ false) × (f.met_overflow ≡ false)
      × (fault_after (scripts f.goal) f.replies ≡ None)

  -- Where the evaluation is enclosed, each question is about one of the goals and comes above depth 0,
  -- and no overflow is met.
  abbrev pub EnclosedRefusesNone : Type 0
  EnclosedRefusesNone =
      (limits : Limits I) (counted : Bool) (top : I) (bound : ℕ) (f : Frame I R)
      (below : List (Frame I R)) (starts : ℕ) (met : Bool)
      → EvaluationIsEnclosed scripts limits (counted ≡ true) top
      → IsEvaluating scripts limits (counted ≡ true) top bound (at (f ∷ below) starts met)
      → ((goal : I) → Asks scripts f goal → Contains limits.goals goal × (0 < f.available)) × (f.met_overflow ≡ false)
