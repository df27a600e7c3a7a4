-- The goals below a goal, with the paths to each.
use Rattle.std.specs.Prelude.{◌≡◌, Bool, false, List, [], Option, Some, None, IfSome}
use Rattle.std.specs.Global.{Box}
use Rattle.std.specs.Map.{lookup}
use Rattle.std.specs.Option.{option_map}
use Rattle.goal_paths.specs.Below.{PathKind, PathsToNested, extended, path_of_no_step, union}

-- goals with the paths to them, in some order
abbrev pub NestedPaths : Type 0 → Type 0
NestedPaths I = List (I × PathsToNested)

-- the goals of a map that is made once there are any
abbrev pub goals_in : {I : Type 0} → Option (NestedPaths I) → NestedPaths I
goals_in None = []
goals_in (Some goals) = goals

-- the goals that are held in a box once there are any
abbrev pub held : {I : Type 0} → Option (Box (NestedPaths I)) → NestedPaths I
held goals = goals_in (option_map (λ b. b.value) goals)

-- the paths to a goal
abbrev pub paths_at : {I : Type 0} → (I → I → Bool) → NestedPaths I → I → Option PathsToNested
paths_at same goals input = lookup (same input) goals

-- the paths to a goal that may be recorded twice
abbrev pub joined_paths : Option PathsToNested → Option PathsToNested → Option PathsToNested
joined_paths None more = more
joined_paths (Some paths) None = Some paths
joined_paths (Some paths) (Some more) = Some (union paths more)

-- the new goals have these paths to a goal besides, and to each other goal those that the old ones have
pub record JoinsPaths {I : Type 0} (same : I → I → Bool) (old new : NestedPaths I) (input : I)
    (paths : PathsToNested) : Type 0 where
  pub here : paths_at same new input ≡ joined_paths (paths_at same old input) (Some paths)
  pub others : (other : I) → same input other ≡ false → paths_at same new other ≡ paths_at same old other

-- the new goals have the paths to each goal that the old ones have, and besides those that `more` has,
-- each as f changes them
abbrev pub JoinsEach : {I : Type 0} → (I → I → Bool) → (PathsToNested → PathsToNested)
    → (old more new : NestedPaths I) → Type 0
JoinsEach {I} same f old more new = (input : I)
    → paths_at same new input ≡ joined_paths (paths_at same old input) (option_map f (paths_at same more input))

-- the path of no step is one of these paths: joined to them, it changes nothing
abbrev pub HasNoStep : Option PathsToNested → Type 0
HasNoStep paths = joined_paths paths (Some path_of_no_step) ≡ paths

-- the own goal, if there is one, has the path of no step
abbrev pub HasOwn : {I : Type 0} → (I → I → Bool) → NestedPaths I → Option I → Type 0
HasOwn same goals own = IfSome own (λ input. HasNoStep (paths_at same goals input))

-- paths after a step, if there is one
abbrev pub after_step : Option PathKind → PathsToNested → PathsToNested
after_step None paths = paths
after_step (Some step) paths = extended paths step
