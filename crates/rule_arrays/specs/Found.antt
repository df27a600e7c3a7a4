-- Goals that are found from some on.
use Rattle.std.specs.Prelude.{◌≡◌, ◌<◌, ◌⊎◌, ℕ, Contains, Some, nat_eq, slice_get}
use Rattle.std.specs.List.{list_any}
use Rattle.std.specs.HashSet.{contains}
use Rattle.rule_arrays.specs.Askers.{HasAsker}
use Rattle.rule_arrays.specs.Changes.{Asks}
use Rattle.rule_arrays.specs.Table.{Table}
use Rattle.rule_arrays.specs.declared.changes.askers.Askers.{Askers}
use Rattle.rule_arrays.specs.declared.changes.found.Found.{Found}

abbrev pub IsFound : Found → ℕ → Type 0
IsFound found goal = Contains found.goals.items goal

-- the set has the goals of the list
abbrev pub AreListed : Found → Type 0
AreListed found = (goal : ℕ) → contains nat_eq found.all goal ≡ list_any (nat_eq goal) found.goals.items

-- beside what was found, which keeps its places, these are
pub record Finds (IsNew : ℕ → Type 0) (old new : Found) : Type 0 where
  pub listed : AreListed new
  pub places : (at goal : ℕ) → slice_get old.goals.items at ≡ Some goal → slice_get new.goals.items at ≡ Some goal
  pub found : (goal : ℕ) → IsNew goal → IsFound new goal
  pub only : (goal : ℕ) → IsFound new goal → IsFound old goal ⊎ IsNew goal

-- the goal was found, or asks one that is reached
pub data IsReached (askers : Askers) (found : Found) : ℕ → Type 0 where
  there : (goal : ℕ) → IsFound found goal → IsReached askers found goal
  asker : (goal asked : ℕ) → HasAsker askers asked goal → IsReached askers found asked → IsReached askers found goal

-- Who asks a goal that is found is found, and nothing else is but what was.
pub record FollowsAll (askers : Askers) (old new : Found) : Type 0 where
  pub listed : AreListed new
  pub kept : (goal : ℕ) → IsFound old goal → IsFound new goal
  pub closed : (goal asker : ℕ) → IsFound new goal → HasAsker askers goal asker → IsFound new asker
  pub only : (goal : ℕ) → IsFound new goal → IsReached askers old goal

-- the goal was found, or asks one that can reach such a goal
pub data CanReach (table : Table) (found : Found) : ℕ → Type 0 where
  itself : (goal : ℕ) → IsFound found goal → CanReach table found goal
  asks : (goal asked : ℕ) → Asks table goal asked → CanReach table found asked → CanReach table found goal

-- Who asks one of the first so many goals that is found is found, and nothing else is but what can reach what was.
pub record FindsAskers (table : Table) (first : ℕ) (old new : Found) : Type 0 where
  pub listed : AreListed new
  pub kept : (goal : ℕ) → IsFound old goal → IsFound new goal
  pub closed : (goal asker : ℕ) → IsFound new goal → goal < first → Asks table asker goal → IsFound new asker
  pub only : (goal : ℕ) → IsFound new goal → CanReach table old goal
