-- The frames of the goals under evaluation.
use Rattle.std.specs.Prelude.{List, map}
use Rattle.goal_changes.specs.OpenGoal.{OpenGoal}

-- the newest first
abbrev pub frames_of : {X F I R A T : Type 0} → List (OpenGoal X F I R A T) → List F
frames_of goals = map (λ s. s.1.frame) goals
