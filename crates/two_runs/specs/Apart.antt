-- Provisional entries are of goals that are not worked out meanwhile.
use Rattle.std.specs.Prelude.{◌≤◌, Bool, Contains, length, List}
use Rattle.two_runs.specs.Below.{entries_at, Lists, OpenGoal, ProvisionalCacheEntry, Store, StoredResult}
use Rattle.two_runs.specs.Lone.{IsLone}
use Rattle.search_rules.specs.Runs.{runs_of}
use Rattle.two_runs.specs.Settled.{IsOff}

-- each goal has one entry at most, and one that has an entry is not under evaluation and not lone
pub record StandApart {X F I R A T : Type 0} (same : I → I → Bool) (results : Store I (StoredResult I R T))
    (goals : List (OpenGoal X F I R A T)) (entries : Lists I (ProvisionalCacheEntry X I R A T)) : Type 0 where
  pub one : (goal : I) → length (entries_at same entries goal) ≤ 1
  pub off : (goal : I) (entry : ProvisionalCacheEntry X I R A T)
      → Contains (entries_at same entries goal) entry → IsOff (runs_of goals) goal
  pub not_lone : (goal : I) (entry : ProvisionalCacheEntry X I R A T)
      → Contains (entries_at same entries goal) entry → IsLone same results goal → ⊥
