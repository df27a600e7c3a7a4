-- Paths that are extended together: each is noted with the count of the raises before it.
use Rattle.std.specs.Prelude.{◌≡◌, ◌+◌, ◌≤◌, nat_lt, if◌then◌else◌, Bool, List, map, IfSome}
use Rattle.std.specs.Map.{lookup}
use Rattle.goal_paths.specs.Below.{PathKind, PathsToNested, Inductive, extended}
use Rattle.goal_paths.specs.declared.raises.NotedPaths.{NotedPaths}
use Rattle.goal_paths.specs.declared.raises.Raises.{Raises}
use Rattle.goal_paths.specs.Nested.{NestedPaths}
use Rattle.goal_paths.specs.Steps.{kind_past, no_steps, with_step}

abbrev pub no_raises : Raises
no_raises = record { count = 0; steps = no_steps }

-- one raise more
abbrev pub raised : Raises → PathKind → Raises
raised raises step = record { count = raises.count + 1; steps = with_step raises.steps step raises.count }

-- what is noted for paths that are these now
abbrev pub noted_now : Raises → PathsToNested → NotedPaths
noted_now raises paths = record { paths = paths; raises = raises.count }

-- what the noted paths are now: they are extended by the greatest step of the raises since then, if there were any
abbrev pub paths_now : Raises → NotedPaths → PathsToNested
paths_now raises noted =
    if nat_lt noted.raises raises.count then extended noted.paths (kind_past raises.steps noted.raises) else noted.paths

module _ {I : Type 0} where
  -- the goals with what the noted paths to them are now
  abbrev pub paths_noted : Raises → List (I × NotedPaths) → NestedPaths I
  paths_noted raises noted = map (λ e. (e.0, paths_now raises e.1)) noted

  -- no step is past the last raise, and no paths were noted after it
  pub record AreNoted (same : I → I → Bool) (raises : Raises) (noted : List (I × NotedPaths)) : Type 0 where
    pub none_past : kind_past raises.steps raises.count ≡ Inductive
    pub each : (input : I) → IfSome (lookup (same input) noted) (λ paths. paths.raises ≤ raises.count)
