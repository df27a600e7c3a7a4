-- Goals that no question leads out of. An evaluation of one of them that has depth enough for all of
-- them refuses no question.
use Rattle.std.specs.Prelude.{ℕ, ◌≤◌, List, [], ◌∷◌, length, Contains}
use Rattle.evaluations.specs.Below.{AsksOnly, Request, Reply}
use Rattle.evaluations.specs.Frames.{Frame}
use Rattle.evaluations.specs.Plain.{IsOnStack}
use Rattle.evaluations.specs.Price.{HaveFullDepths}

module _ {I R : Type 0} (scripts : I → List (Reply R) → Request I R) where
  -- whatever is answered, each question that one of the goals asks is one of them, too
  abbrev pub NoQuestionLeadsOut : List I → Type 0
  NoQuestionLeadsOut goals =
      (goal : I) → Contains goals goal → AsksOnly (λ _ asked. Contains goals asked) (scripts goal)

  -- The goal is one of these, no question leads out of them, and they are no more than the depth.
  pub record IsEnclosed (goals : List I) (depth : ℕ) (goal : I) : Type 0 where
    pub within : Contains goals goal
    pub closed : NoQuestionLeadsOut goals
    pub fits : length goals ≤ depth

  -- each frame is of one of the goals, and of another one than the frames below it
  abbrev pub AreDistinct : (goals : List I) → List (Frame I R) → Type 0
  AreDistinct goals [] = Unit {0}
  AreDistinct goals (f ∷ below) = Contains goals f.goal × (IsOnStack scripts f.goal below → ⊥) × AreDistinct goals below

  -- What holds of the frames of an enclosed evaluation: no frame met overflow, and none is of the same goal as another.
  pub record StayEnclosed (goals : List I) (root : ℕ) (frames : List (Frame I R)) : Type 0 where
    pub depths : HaveFullDepths root frames
    pub distinct : AreDistinct goals frames
