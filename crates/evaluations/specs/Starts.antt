-- How many frames an evaluation may still start, and how many steps it may still take.
use Rattle.std.specs.Prelude.{ℕ, zero, suc, ◌+◌, ◌*◌, ◌-◌, ◌<◌, ◌≤◌, List, [], ◌∷◌}
use Rattle.evaluations.specs.Below.{frames_within}
use Rattle.evaluations.specs.Frames.{Frame}

-- the frames that one question of a goal at this depth may start
abbrev pub frames_below : (runs width : ℕ) → ℕ → ℕ
frames_below runs width zero = 0
frames_below runs width (suc depth) = frames_within runs width depth

module _ {I R : Type 0} (runs width : ℕ) where
  -- for each step that is left of this run a question, and for each run that is left a frame and its steps
  abbrev pub frames_ahead_of : Frame I R → ℕ
  frames_ahead_of f = f.left * frames_below runs width f.available
      + (runs - (f.finished_runs + 1)) * (1 + width * frames_below runs width f.available)

  -- the frames that may still be started
  abbrev pub frames_ahead : List (Frame I R) → ℕ
  frames_ahead [] = 0
  frames_ahead (f ∷ below) = frames_ahead_of f + frames_ahead below

  -- the steps that are left of the present runs
  abbrev pub steps_in_runs : List (Frame I R) → ℕ
  steps_in_runs [] = 0
  steps_in_runs (f ∷ below) = f.left + steps_in_runs below

  -- the steps of the present runs, and of the frames that may still start, with the end of each
  abbrev pub steps_ahead : List (Frame I R) → ℕ
  steps_ahead frames = (width + 1) * frames_ahead frames + steps_in_runs frames

  -- the frames that were started and those that may still be are no more than the bound
  abbrev pub StaysWithin : (bound starts : ℕ) → List (Frame I R) → Type 0
  StaysWithin bound starts frames = starts + frames_ahead frames ≤ bound

  -- a move that starts so many frames takes them from those that may start, and leaves fewer steps
  pub record Spends (started : ℕ) (old new : List (Frame I R)) : Type 0 where
    pub frames : started + frames_ahead new ≤ frames_ahead old
    pub steps : steps_ahead new < steps_ahead old
