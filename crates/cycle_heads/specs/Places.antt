-- Where a depth stands in a list by rising depth.
use Rattle.std.specs.Prelude.{ℕ, suc, ◌<◌, ◌≤◌, List, [], ◌∷◌, length, get_or, Result, Ok, Err}
use Rattle.std.specs.Ordering.{match_ordering}
use Rattle.cycle_heads.specs.declared.depth.StackDepth.{StackDepth}
use Rattle.cycle_heads.specs.Heads.{depth_cmp}

-- the same place in a list with one more before it
abbrev pub one_later : Result ℕ ℕ → Result ℕ ℕ
one_later (Ok i) = Ok (suc i)
one_later (Err i) = Err (suc i)

-- the place of a depth; as an error, the place that it would have
abbrev pub place_of : {A : Type 0} → List (StackDepth × A) → StackDepth → Result ℕ ℕ
place_of [] depth = Err 0
place_of (e ∷ es) depth = match_ordering (depth_cmp depth e.0) (Err 0) (Ok 0) (one_later (place_of es depth))

-- the list has so many entries, and these are below the depth
pub record AreBelow {A : Type 0} (entries : List (StackDepth × A)) (count : ℕ) (depth : StackDepth) : Type 0 where
  pub within : count ≤ length entries
  pub below : (i : ℕ) (e : StackDepth × A) → i < count → (get_or entries i e).0.0 < depth.0
