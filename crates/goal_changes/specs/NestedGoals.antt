-- The goals below a goal that is under evaluation, and what of an answer changes them besides its heads.
use Rattle.std.specs.Prelude.{◌≡◌, ◌≢◌, Bool, List, [], ◌∷◌}
use Rattle.std.specs.Option.{option_map}
use Rattle.goal_changes.specs.Below.{EvaluationResult, PathKind, StackEntry, Hit, NestedPaths, joined_paths, paths_at}
use Rattle.goal_changes.specs.Below.{JoinsPaths, extended, path_of_no_step, paths_of, Run}
use Rattle.goal_changes.specs.Entries.{overflowed, with_depth, with_nested_goals}
use Rattle.goal_changes.specs.OpenGoal.{OpenGoal}

-- The goals below `own` take over those of an answer over the step: each with its paths after the step, and `own`
-- itself by the path of no step. An answer without goals changes nothing.
pub data TakesNestedGoals {I : Type 0} (same : I → I → Bool) (own : I) (step : PathKind)
    (answer old new : NestedPaths I) : Type 0 where
  Nothing : answer ≡ [] → new ≡ old → TakesNestedGoals same own step answer old new
  Joined :
      (between : NestedPaths I)
      → answer ≢ []
      → ((input : I) → paths_at same between input
      ≡ joined_paths (paths_at same old input) (option_map (λ paths. extended paths step) (paths_at same answer input)))
      → JoinsPaths same between new own path_of_no_step → TakesNestedGoals same own step answer old new

-- The goals below `own` get the head of a cycle that the step closed, by the path of the step, and `own` itself
-- by the path of no step.
pub record TakesHeadGoal {I : Type 0} (same : I → I → Bool) (own : I) (step : PathKind) (goal : I)
    (old new : NestedPaths I) : Type 0 where
  pub between : NestedPaths I
  pub head : JoinsPaths same old between goal (paths_of step)
  pub itself : JoinsPaths same between new own path_of_no_step

-- What is left of an answer once it was given: all but its nested goals, and these too where it rests on no goal, so
-- that it can be stored.
pub record LeavesAnswer {X I R A T : Type 0} (old new : EvaluationResult X I R A T) : Type 0 where
  pub others : new ≡ record old { nested_goals = new.nested_goals }
  pub whole : old.heads ≡ [] → new ≡ old

module _ {X F I R A T : Type 0} where
  -- what becomes of the goals below the newest goal, by a relation of its own goal with those before and those after
  abbrev pub ChangesNested : (I → NestedPaths I → NestedPaths I → Type 0) → List (OpenGoal X F I R A T)
      → List (OpenGoal X F I R A T) → Type 0
  ChangesNested takes (s ∷ below) (t ∷ after) = takes s.0.input s.0.state.nested_goals t.0.state.nested_goals
  ChangesNested takes _ _ = ⊥

module _ {X F I R A T : Type 0} (same : I → I → Bool) where
  -- the newest goal takes over the goals of an answer over the step
  abbrev pub NestsAnswer : PathKind → NestedPaths I → List (OpenGoal X F I R A T) → List (OpenGoal X F I R A T) → Type 0
  NestsAnswer step answer = ChangesNested (λ own. TakesNestedGoals same own step answer)

  -- the head of a cycle that the step closed is one of the goals below the newest goal, and so is this itself
  abbrev pub NestsHead : PathKind → I → List (OpenGoal X F I R A T) → List (OpenGoal X F I R A T) → Type 0
  NestsHead step goal = ChangesNested (λ own. TakesHeadGoal same own step goal)

  -- the newest goal is one of the goals below itself, and no other one is new
  abbrev pub NestsItself : List (OpenGoal X F I R A T) → List (OpenGoal X F I R A T) → Type 0
  NestsItself = ChangesNested (λ own old new. JoinsPaths same old new own path_of_no_step)

  -- a question of the newest goal was refused: it met overflow, and is one of the goals below itself
  pub record NotesOverflow (old new : List (OpenGoal X F I R A T)) : Type 0 where
    pub entry : StackEntry X I R A T
    pub run : Run X F I R A T
    pub below : List (OpenGoal X F I R A T)
    pub nested : NestedPaths I
    pub was : old ≡ (entry, run) ∷ below
    pub is : new ≡ (overflowed (record entry { state = with_nested_goals entry.state nested }), run) ∷ below
    pub joins : JoinsPaths same entry.state.nested_goals nested entry.input path_of_no_step

  -- the newest goal takes a stored result over the step: the depth that this required, whether it met
  -- overflow, and its goals
  pub record TakesStored (step : PathKind) (hit : Hit I R T) (old new : List (OpenGoal X F I R A T)) : Type 0 where
    pub entry : StackEntry X I R A T
    pub run : Run X F I R A T
    pub below : List (OpenGoal X F I R A T)
    pub nested : NestedPaths I
    pub was : old ≡ (entry, run) ∷ below
    pub is : new ≡ (
      record entry {
        state = with_nested_goals (with_depth entry.state hit.required_depth hit.encountered_overflow) nested;
      },
      run,
    ) ∷ below
    pub takes : TakesNestedGoals same entry.input step hit.nested_goals entry.state.nested_goals nested
