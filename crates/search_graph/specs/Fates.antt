-- What becomes of the goals' results, and which stored results stay, while a goal is worked out.
use Rattle.std.specs.Prelude.{◌≡◌, Bool, false, List}
use Rattle.run_records.specs.declared.runs.Fate.{Fate}
use Rattle.run_records.specs.declared.runs.Fate.TheVariants as becomes
use Rattle.search_graph.specs.Below.{fates_of, HasOldest, HaveExpected, NoneStored, Place, Reply, Request, Store}
use Rattle.search_graph.specs.Below.{OpenGoal, stored_at, StoredResult}

-- The first goal has this fate, and the goals have what they are to be compared with. With a builder that records
-- nothing is stored; and nothing is of the first goal if its result isn't to be.
pub record KeepsFates {C F I R A T : Type 0} (scopes : I → Bool) (scripts : I → List (Reply R) → Request I R)
    (same : I → I → Bool) (noop : Bool) (input : I) (fate : Fate R) (old : Store I (StoredResult I R T))
    (goals : List (OpenGoal C F I R A T)) (new : Store I (StoredResult I R T)) : Type 0 where
  pub recording : noop ≡ false → NoneStored (fates_of goals)
  pub recorded : noop ≡ false → new ≡ old
  pub expected : HaveExpected scopes scripts same new (fates_of goals)
  pub oldest : HasOldest same input fate (fates_of goals)
  pub spared : (fate ≡ becomes.Stored → ⊥) → (place : Place)
      → stored_at same new input place ≡ stored_at same old input place
