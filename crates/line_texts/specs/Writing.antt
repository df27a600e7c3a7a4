-- What is written before a failure.
use Rattle.std.specs.Prelude.{◌≡◌, ◌++◌, ℕ, List, Option, take}
use Rattle.std.specs.Io.KnownBytes.{Appends}

-- known bytes grow by a beginning of these
abbrev pub AppendsBeginning : Option (List ℕ) → Option (List ℕ) → List ℕ → Type 0
AppendsBeginning old new bytes = (n : ℕ) × Appends old new (take n bytes)

-- Known bytes grow by those that waited, but for those that wait still.
pub record Passes (old new : Option (List ℕ)) (waited waits : List ℕ) : Type 0 where
  pub bytes : List ℕ
  pub written : Appends old new bytes
  pub others : waited ≡ bytes ++ waits
