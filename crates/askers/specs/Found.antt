-- Goals that are found from one on.
use Rattle.std.specs.Prelude.{◌≡◌, ◌⊎◌, ℕ, Bool, Contains, List, Some, slice_get}
use Rattle.std.specs.List.{list_any}
use Rattle.std.specs.HashSet.{contains}
use Rattle.askers.specs.declared.found.Found.{Found}

abbrev pub IsFound : {I : Type 0} → Found I → I → Type 0
IsFound found goal = Contains found.goals.items goal

-- the set has the goals of the list
abbrev pub AreListed : {I : Type 0} → (I → I → Bool) → Found I → Type 0
AreListed {I} same found = (goal : I) → contains same found.all goal ≡ list_any (same goal) found.goals.items

-- beside what was found, which keeps its places, these are
pub record Finds {I : Type 0} (same : I → I → Bool) (IsNew : I → Type 0) (old new : Found I) : Type 0 where
  pub listed : AreListed same new
  pub places : (at : ℕ) (goal : I) → slice_get old.goals.items at ≡ Some goal
      → slice_get new.goals.items at ≡ Some goal
  pub found : (goal : I) → IsNew goal → IsFound new goal
  pub only : (goal : I) → IsFound new goal → IsFound old goal ⊎ IsNew goal

-- the goal was found, or asks one that is reached
pub data IsReached {I : Type 0} (asks : List (I × I)) (found : Found I) : I → Type 0 where
  there : (goal : I) → IsFound found goal → IsReached asks found goal
  asker : (goal asked : I) → Contains asks (goal, asked) → IsReached asks found asked → IsReached asks found goal

-- Who asks a goal that is found is found, and nothing else is but what was.
pub record FollowsAll {I : Type 0} (same : I → I → Bool) (asks : List (I × I)) (old new : Found I) : Type 0 where
  pub listed : AreListed same new
  pub kept : (goal : I) → IsFound old goal → IsFound new goal
  pub closed : (goal asker : I) → IsFound new goal → Contains asks (asker, goal) → IsFound new asker
  pub only : (goal : I) → IsFound new goal → IsReached asks old goal
