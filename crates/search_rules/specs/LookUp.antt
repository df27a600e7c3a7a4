-- Which stored results may be used over a stack, and what a used one is worth; which provisional entries are used.
use Rattle.std.specs.Prelude.{◌≡◌, ℕ, ◌<◌, ◌≤◌, Bool, true, false, not, ◌&&◌, if◌then◌else◌, List, length, All, Option}
use Rattle.std.specs.Prelude.{None, is_some, Some}
use Rattle.std.specs.List.{find, list_all, list_any}
use Rattle.std.specs.Option.{IfSome}
use Rattle.search_rules.specs.Below.{highest, extended, has_kind, PathsToNested, path_kind_from, Lists, entries_at}
use Rattle.search_rules.specs.Below.{highest_passes, may_be_used, ProvisionalCacheEntry, PathKind, Request, Reply}
use Rattle.search_rules.specs.Below.{Answer, Place, WithOverflow, StoredResult, OpenGoal, StackEntry, Hit, NestedPaths}
use Rattle.search_rules.specs.Below.{paths_at, IsPlain, IsBelowRank, Store, stored_at, Received, TakesStored}

-- where a question is asked: the stack, the provisional entries by goal, and the step
pub record Asking (X I R A T : Type 0) : Type 0 where
  pub stack : List (StackEntry X I R A T)
  pub entries : Lists I (ProvisionalCacheEntry X I R A T)
  pub step : PathKind

module _ {X I R A T : Type 0} where
  -- Whether the entry could be used for a goal that is reached from the asked one by one of the paths: a path from its
  -- highest head over the step and on is of the kind that it was. One that met overflow is not used there.
  abbrev pub could_be_used : Asking X I R A T → PathsToNested → ProvisionalCacheEntry X I R A T → Bool
  could_be_used asking paths entry =
      not entry.encountered_overflow && highest_passes
      (λ at _. has_kind (extended paths (path_kind_from asking.stack at asking.step)) entry.path_from_head) entry.heads

-- The result is stored of the goal and may be used at the depth. If the goal has a rank, it is the plain value; or it
-- met overflow, and the depth is below the rank.
pub record IsUsable {I R T : Type 0} (same : I → I → Bool) (scripts : I → List (Reply R) → Request I R)
    (results : Store I (StoredResult I R T)) (goal : I) (depth : ℕ) (hit : Hit I R T) : Type 0 where
  pub place : Place
  pub stored : StoredResult I R T
  pub is_stored : stored_at same results goal place ≡ Some stored
  pub result_is : stored.result.result ≡ hit.result
  pub node_is : stored.node ≡ hit.node
  pub place_is : hit.encountered_overflow ≡ true → place ≡ WithOverflow depth
  pub value : hit.encountered_overflow ≡ false → IsPlain scripts goal hit.result
  pub overflow : hit.encountered_overflow ≡ true → IsBelowRank scripts goal depth
  pub within : hit.required_depth ≤ depth

module _ {X I R A T : Type 0} (same : I → I → Bool) where
  -- the highest head of each entry is on the stack
  abbrev pub AreOnStack : List (StackEntry X I R A T) → Lists I (ProvisionalCacheEntry X I R A T) → Type 0
  AreOnStack stack entries = (goal : I)
      → All (λ entry. IfSome (highest entry.heads) (λ head. head.0.0 < length stack)) (entries_at same entries goal)

  -- whether the goal, which is reached from the asked one by these paths, has an entry that could be used for it
  abbrev pub meets_entry : Asking X I R A T → I → PathsToNested → Bool
  meets_entry asking goal paths = list_any (could_be_used asking paths) (entries_at same asking.entries goal)

  -- no goal below the result is on the stack, nor has one an entry that could be used for it
  abbrev pub is_applicable : Asking X I R A T → NestedPaths I → Bool
  is_applicable asking nested =
      not (list_any (λ e. is_some (paths_at same nested e.input)) asking.stack)
      && list_all (λ goal. not (meets_entry asking goal.0 goal.1)) nested

  -- the entry that answers the goal, if such entries may be used at all, and one of them here
  abbrev pub usable_entry : (enabled : Bool) → Asking X I R A T → I → Option (ProvisionalCacheEntry X I R A T)
  usable_entry enabled asking goal =
      if enabled then find (may_be_used asking.stack asking.step) (entries_at same asking.entries goal) else None

  -- the newest goal's question was answered so
  pub record UsesStored {F : Type 0} (scripts : I → List (Reply R) → Request I R)
      (results : Store I (StoredResult I R T)) (step : PathKind) (goal : I) (depth : ℕ) (received : Received R)
      (old new : List (OpenGoal X F I R A T)) : Type 0 where
    pub hit : Hit I R T
    pub usable : IsUsable same scripts results goal depth hit
    pub is : received ≡ record { reply = Answer hit.result; node = hit.node }
    pub takes : TakesStored same step hit old new
