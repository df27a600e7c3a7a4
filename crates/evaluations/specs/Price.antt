-- What it costs to meet a limit, where each start is counted: until then no frame met overflow, so depths fall by one
-- from frame to frame, and each frame and each of its runs was counted.
use Rattle.std.specs.Prelude.{◌≡◌, ℕ, ◌+◌, ◌≤◌, min, Bool, true, false, List, [], ◌∷◌, length, ◌⊎◌}
use Rattle.evaluations.specs.Frames.{Frame}

-- so many were counted since the count stood at `before`, unless it came to its end
abbrev pub HasCounted : (last before now : ℕ) → ℕ → Type 0
HasCounted last before now many = (before + many ≤ now) ⊎ (last ≤ now)

-- the price of a limit: the runs of one goal, or the frames from the root to depth 0
abbrev pub IsPaid : (runs root last before now : ℕ) → Type 0
IsPaid runs root last before now = HasCounted last before now (min runs (root + 1))

-- each limit costs so much at least: no more than the runs of one goal, nor, unless no question is refused, than the
-- frames from the root to depth 0
pub record IsPrice (runs root : ℕ) (none_refused : Type 0) (price : ℕ) : Type 0 where
  pub of_runs : price ≤ runs
  pub of_depth : (price ≤ root + 1) ⊎ none_refused

module _ {I R : Type 0} where
  -- each frame met no overflow, and has the depth that its place on the stack leaves it
  abbrev pub HaveFullDepths : (root : ℕ) → List (Frame I R) → Type 0
  HaveFullDepths root [] = Unit {0}
  HaveFullDepths root (f ∷ below) =
      (f.available + length below ≡ root) × (f.met_overflow ≡ false)
      × (f.met_before ≡ false) × HaveFullDepths root below

  -- the frames that were started for the goals on the stack
  abbrev pub frames_started : List (Frame I R) → ℕ
  frames_started [] = 0
  frames_started (f ∷ below) = f.finished_runs + 1 + frames_started below

  -- no frame met a limit, and each start of theirs was counted
  pub record IsUnlimited (root last before now : ℕ) (frames : List (Frame I R)) : Type 0 where
    pub depths : HaveFullDepths root frames
    pub counted : HasCounted last before now (frames_started frames)

  -- What holds between two moves: before a limit is met no frame met overflow, and afterwards the price is paid.
  pub record IsPriced (price root last before now : ℕ) (limits_met : Bool) (frames : List (Frame I R)) : Type 0 where
    pub not_yet : limits_met ≡ false → IsUnlimited root last before now frames
    pub paid : limits_met ≡ true → HasCounted last before now price
