-- Questions: what a goal asks.
use Rattle.std.specs.Prelude.{List, Contains}
use Rattle.search_context.specs.Below.{PathKind}

-- a goal, asked over a step of this kind
pub record Question (I : Type 0) : Type 0 where
  pub kind : PathKind
  pub goal : I

-- each of the first is one of the second
abbrev pub IsWithin : {A : Type 0} → List A → List A → Type 0
IsWithin {A} xs ys = (x : A) → Contains xs x → Contains ys x

-- the two have a member in common
abbrev pub Overlap : {A : Type 0} → List A → List A → Type 0
Overlap {A} xs ys = (x : A) × Contains xs x × Contains ys x
