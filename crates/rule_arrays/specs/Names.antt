-- Names, each in a line of its own.
use Rattle.std.specs.Prelude.{◌≡◌, ℕ, ◌<◌, ◌^◌, List, length, slice_get, Some}
use Rattle.line_texts.specs.Lines.{lines_of}

-- the line at this place is the name, which is not empty, and none before it is
pub record IsFirstLine (text name : List ℕ) (place : ℕ) : Type 0 where
  pub is_some : 0 < length name
  pub is_line : slice_get (lines_of text) place ≡ Some name
  pub others : (other : ℕ) → other < place → slice_get (lines_of text) other ≡ Some name → ⊥

-- no line of a place below 2 to the power 32 is the name, unless that is empty
abbrev pub IsInNoLine : List ℕ → List ℕ → Type 0
IsInNoLine text name = (place : ℕ) → place < 2 ^ 32 → slice_get (lines_of text) place ≡ Some name → length name ≡ 0
