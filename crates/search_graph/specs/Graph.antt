-- What a search graph is between its calls.
use Rattle.std.specs.Prelude.{ℕ, Bool}

-- the depth that its goals get, and whether a limit was met
pub record Graph : Type 0 where
  pub root_depth : ℕ
  pub limits_met : Bool
