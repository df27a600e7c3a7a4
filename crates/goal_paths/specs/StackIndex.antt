-- The map that finds a stack's inputs.
use Rattle.std.specs.Prelude.{ℕ, ◌≡◌, List, Bool, Option}
use Rattle.std.specs.List.{position, IsDistinct}

-- depth says where each input stands in the list, and no input stands there twice
pub record IsIndex {I : Type 0} (eq : I → I → Bool) (depth : I → Option ℕ) (inputs : List I) : Type 0 where
  pub agrees : (q : I) → depth q ≡ position (eq q) inputs
  pub distinct : IsDistinct eq inputs
