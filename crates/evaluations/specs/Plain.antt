-- Goals with a rank answer their plain values: what holds of each frame, each outcome and each stored result. Nothing
-- is said of a goal that has no rank, so frames of both sorts stand on one stack.
use Rattle.std.specs.Prelude.{◌≡◌, ℕ, ◌≤◌, true, false, List, [], ◌∷◌, Some, ◌⊎◌, ◌||◌}
use Rattle.evaluations.specs.Below.{Request, Done, Reply, request_after, AreRepliesTo, IsFitting, IsPlainTo, HasNoRank}
use Rattle.evaluations.specs.Below.{IsPlain, IsBelowRank}
use Rattle.evaluations.specs.Frames.{Frame, Outcome, AsksAt}

module _ {I R : Type 0} (scripts : I → List (Reply R) → Request I R) where
  -- a question about the goal at this depth may be answered so
  pub record IsSafeOutcome (goal : I) (depth : ℕ) (o : Outcome R) : Type 0 where
    pub value : o.met_overflow ≡ false → IsPlain scripts goal o.result
    pub overflow : o.met_overflow ≡ true → IsBelowRank scripts goal depth
    pub cycle : o.in_cycle ≡ true → HasNoRank scripts goal
    pub within : o.required ≤ depth

  -- What holds of a frame: if its goal has a rank, its replies are plain values while it met no overflow, its depth is
  -- below the rank if it did, and it is in no cycle.
  pub record IsSafe (f : Frame I R) : Type 0 where
    pub fitting : IsFitting (scripts f.goal) f.replies
    pub values : f.met_overflow ≡ false → AreRepliesTo (IsPlain scripts) (scripts f.goal) f.replies
    pub overflow : f.met_overflow ≡ true → IsBelowRank scripts f.goal f.available
    pub before : f.met_before ≡ true → IsBelowRank scripts f.goal f.available
    pub cycle : f.in_cycle ≡ true → HasNoRank scripts f.goal
    pub within : f.required ≤ f.available

  -- each frame is safe, and was asked for by the one below
  abbrev pub AreSafe : List (Frame I R) → Type 0
  AreSafe [] = Unit {0}
  AreSafe (f ∷ below) = IsSafe f × AsksAt scripts below f.goal f.available × AreSafe below

  -- one of the frames is of this goal
  abbrev pub IsOnStack : I → List (Frame I R) → Type 0
  IsOnStack goal [] = ⊥
  IsOnStack goal (f ∷ below) = (f.goal ≡ goal) ⊎ IsOnStack goal below

  -- what a frame leaves as it is popped: the result of its run, or, of a goal in a cycle, any result
  pub record LeavesOutcome (f : Frame I R) (o : Outcome R) : Type 0 where
    pub result : (request_after (scripts f.goal) f.replies ≡ Some (Done o.result)) ⊎ (f.in_cycle ≡ true)
    pub required : o.required ≡ f.required
    pub met_overflow : o.met_overflow ≡ (f.met_overflow || f.met_before)
    pub in_cycle : o.in_cycle ≡ true → f.in_cycle ≡ true

  -- the frame's goal has a rank that fits its depth
  abbrev pub HasRoom : Frame I R → Type 0
  HasRoom f = (n : ℕ) × IsPlainTo scripts n f.goal × (n ≤ f.available)

  -- each frame has room
  abbrev pub HaveRoom : List (Frame I R) → Type 0
  HaveRoom [] = Unit {0}
  HaveRoom (f ∷ below) = HasRoom f × HaveRoom below
