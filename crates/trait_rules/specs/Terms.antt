-- Types, and which one a number stands for.
use Rattle.std.specs.Prelude.{◌≡◌, ◌<◌, ℕ, List, slice_get, Some}
pub use Rattle.trait_rules.specs.declared.made.Made.{Made}
pub use Rattle.trait_rules.specs.declared.made.Made.TheVariants.{Applied, Constructor}

-- a type: a constructor, or a type with one argument more
pub data Term : Type 0 where
  constructor : ℕ → Term
  applied : Term → Term → Term

-- its outermost constructor
abbrev pub constructor_of : Term → ℕ
constructor_of (constructor c) = c
constructor_of (applied f x) = constructor_of f

-- the number stands for the type
pub data Stands (made : List Made) : ℕ → Term → Type 0 where
  constructor_at : {number c : ℕ} → slice_get made number ≡ Some (Constructor c) → Stands made number (constructor c)
  applied_at : {number f x : ℕ} {g y : Term} → slice_get made number ≡ Some (Applied f x) →
      Stands made f g → Stands made x y → Stands made number (applied g y)

-- the parts of a type have lesser numbers
pub record ArePartsFirst (made : List Made) : Type 0 where
  pub before : (number f x : ℕ) → slice_get made number ≡ Some (Applied f x) → (f < number) × (x < number)
