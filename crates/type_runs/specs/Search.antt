-- The search for a reason: pairs that are not below, and for each but the first the step by which it was found.
use Rattle.std.specs.Prelude.{◌≡◌, ◌<◌, ◌⊎◌, ℕ, All, Contains, List, Some, length, slice_get}
use Rattle.type_order.specs.Subtypes.{IsBelow, IsSimulation, forms_of}
use Rattle.type_order.specs.declared.delegate.Pair.{Pair}
use Rattle.type_order.specs.declared.types.Form.{Form}
use Rattle.type_texts.specs.Reasons.{IsStep}
use Rattle.type_texts.specs.declared.reasons.Step.{Step}
use Rattle.type_runs.specs.declared.program.reason.Found.{Found}
use Rattle.type_runs.specs.declared.program.reason.Search.{Search}

-- the types of which it seeks a reason
abbrev pub types_in : Search → List Form
types_in search = forms_of search.types.now

-- how many pairs were found
abbrev pub count_in : Search → ℕ
count_in search = length search.found.items

-- the pair was found at this place
pub record IsAt (search : Search) (place : ℕ) (pair : Pair) : Type 0 where
  pub found : Found
  pub is_at : slice_get search.found.items place ≡ Some found
  pub is_pair : found.pair ≡ pair

-- the pair was found
abbrev pub IsFound : Search → Pair → Type 0
IsFound search pair = (place : ℕ) × IsAt search place pair

-- the step leads to the pair from the one at this place
abbrev pub ComesFrom : Search → Pair → (from : ℕ) → Step → Type 0
ComesFrom search pair from step =
    (earlier : Pair) × IsAt search from earlier × IsStep (types_in search) step earlier pair

-- What holds between two steps: no pair is below, each but the first comes from an earlier one, and
-- what was seen was found.
pub record IsSearch (search : Search) : Type 0 where
  pub not_below : (place : ℕ) (pair : Pair) → IsAt search place pair
      → IsBelow (types_in search) pair.left pair.right → ⊥
  pub is_linked : (place : ℕ) (found : Found) → slice_get search.found.items place ≡ Some found → 0 < place →
      (found.from < place) × ComesFrom search found.pair found.from found.step
  pub seen : All (IsFound search) search.seen.keys

-- the types are the same, and what was found stays at its place
pub record GoesOn (old new : Search) : Type 0 where
  pub types : types_in new ≡ types_in old
  pub kept : (place : ℕ) (found : Found) → slice_get old.found.items place ≡ Some found
      → slice_get new.found.items place ≡ Some found

-- each of these pairs was found, or a simulation shows that it is below
pub record AreCovered (search : Search) (AreThese : Pair → Type 0) : Type 0 where
  pub below : List (ℕ × ℕ)
  pub is_simulation : IsSimulation (types_in search) below
  pub each : (pair : Pair) → AreThese pair → IsFound search pair ⊎ Contains below (pair.left, pair.right)
