-- Values that each have one number.
use Rattle.std.specs.Prelude.{◌≡◌, ◌⊎◌, ℕ, List, length, slice_get, Option, Some}

-- a value has the number that is its place, and no other one
pub record AreNumbered {K : Type 0} (number : K → Option ℕ) (keys : List K) : Type 0 where
  pub found : (key : K) (n : ℕ) → number key ≡ Some n → slice_get keys n ≡ Some key
  pub each : (key : K) (n : ℕ) → slice_get keys n ≡ Some key → number key ≡ Some n

-- no value stands at two places
pub record IsOnce {K : Type 0} (keys : List K) : Type 0 where
  pub same : (key : K) (n m : ℕ) → slice_get keys n ≡ Some key → slice_get keys m ≡ Some key → n ≡ m

-- what stands in the first list stands at the same place in the second one
pub record Keeps {K : Type 0} (some more : List K) : Type 0 where
  pub at : (n : ℕ) (key : K) → slice_get some n ≡ Some key → slice_get more n ≡ Some key

-- what stands in the second list stands in the first one, or is this value behind it
pub record Grows {K : Type 0} (some more : List K) (key : K) : Type 0 where
  pub old : (n : ℕ) (other : K) → slice_get more n ≡ Some other →
      (slice_get some n ≡ Some other) ⊎ ((n ≡ length some) × (other ≡ key))
