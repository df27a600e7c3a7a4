-- What is remembered as shown: of each goal an outcome, with the node by whose graph it was shown.
use Rattle.std.specs.Prelude.{◌≡◌, All, Bool, Contains, if◌then◌else◌, List, None, Option}
use Rattle.std.specs.Map.{lookup}
use Rattle.table_runs.specs.Below.{Goal, NodeId, Outcome}

-- what is remembered of the goal
abbrev pub shown_of : (Goal → Goal → Bool) → List (Goal × (Outcome × NodeId)) → Goal → Option (Outcome × NodeId)
shown_of same shown goal = lookup (same goal) shown

-- of goals that are gone nothing is remembered any more, and of all others what was
pub record ForgetsGone (same : Goal → Goal → Bool) (is_gone : Goal → Bool)
    (old new : List (Goal × (Outcome × NodeId))) : Type 0 where
  pub left : (goal : Goal) → shown_of same new goal ≡ (if is_gone goal then None else shown_of same old goal)
  pub kept : All (Contains old) new
