-- What becomes of a goal whose run has ended.
use Rattle.std.specs.Prelude.{◌≡◌, ◌≢◌, ◌⊎◌, ℕ, ◌+◌, ◌<◌, ◌≤◌, Bool, true, IsSome, Option, None, Some, Result, Ok, Err}
use Rattle.search_rules.specs.Below.{PathKind, HeadUsages, count_of, RebaseReason}
use Rattle.provisional_cache.specs.declared.RebaseReason.TheVariants as reason
use Rattle.search_rules.specs.declared.end_of_run.Unstable.{Unstable}
use Rattle.search_rules.specs.declared.end_of_run.Unstable.TheVariants.{AtLimit, Again}

-- The goal's cycles were answered with the run's own result: a later run came to the provisional result again; a first
-- run came to the initial result of a kind, and used no cycle of another kind.
abbrev pub ReachedFixpoint : {R : Type 0} → (R → R → Bool) → (R → Option PathKind) → Option R → HeadUsages → R → Type 0
ReachedFixpoint same initial_kind (Some earlier) usages r = same earlier r ≡ true
ReachedFixpoint same initial_kind None usages r =
    (kind : PathKind) × (initial_kind r ≡ Some kind) × ((other : PathKind) → other ≢ kind → count_of usages other ≡ 0)

-- cycles through the goal were used
abbrev pub IsUsed : HeadUsages → Type 0
IsUsed usages = (kind : PathKind) × (count_of usages kind ≢ 0)

module _ {R A : Type 0} (same : R → R → Bool) (initial_kind : R → Option PathKind) (ambiguity : R → Option A) where
  -- a further run would change nothing, or isn't worth it: a fixpoint is reached, no cycle was used, or
  -- the result is ambiguous
  abbrev pub IsStable : Option R → HeadUsages → R → Type 0
  IsStable earlier usages r = ReachedFixpoint same initial_kind earlier usages r
      ⊎ (((kind : PathKind) → count_of usages kind ≡ 0) ⊎ IsSome (ambiguity r))

  module _ {X I T : Type 0} where
    -- The first of these that is so is the reason why the result is stable, by which entries that rest on
    -- the goal are rebased.
    pub data IsReason (earlier : Option R) (usages : HeadUsages) (r : R) : RebaseReason X I R A T → Type 0 where
      Repeated : (value : R) → earlier ≡ Some value → same value r ≡ true
          → IsReason earlier usages r (reason.ReachedFixpoint None)
      Initial : (kind : PathKind) → earlier ≡ None → initial_kind r ≡ Some kind
          → ((other : PathKind) → other ≢ kind → count_of usages other ≡ 0)
          → IsReason earlier usages r (reason.ReachedFixpoint (Some kind))
      WithoutUsages : (ReachedFixpoint same initial_kind earlier usages r → ⊥)
          → ((kind : PathKind) → count_of usages kind ≡ 0) → IsReason earlier usages r reason.NoCycleUsages
      Ambiguous : (info : A) → (ReachedFixpoint same initial_kind earlier usages r → ⊥) → IsUsed usages
          → ambiguity r ≡ Some info → IsReason earlier usages r (reason.Ambiguity info)

    -- A goal that wasn't used as a head is done, and so is one whose result is stable. Any other is run again, unless
    -- it had its most runs.
    pub data IsEndOfRun (limit : ℕ) (earlier : Option R) (usages : Option HeadUsages) (finished_runs : ℕ) (r : R) :
        Result (Option (RebaseReason X I R A T)) Unstable → Type 0 where
      Unused : usages ≡ None → IsEndOfRun limit earlier usages finished_runs r (Ok None)
      Stable : (used : HeadUsages) (why : RebaseReason X I R A T) → usages ≡ Some used → IsReason earlier used r why
          → IsEndOfRun limit earlier usages finished_runs r (Ok (Some why))
      Limited : (used : HeadUsages) → usages ≡ Some used → (IsStable earlier used r → ⊥) → limit ≤ finished_runs + 1
          → IsEndOfRun limit earlier usages finished_runs r (Err AtLimit)
      Repeats : (used : HeadUsages) → usages ≡ Some used → (IsStable earlier used r → ⊥) → finished_runs + 1 < limit
          → IsEndOfRun limit earlier usages finished_runs r (Err Again)
