-- A line was taken off what a reader has left.
use Rattle.std.specs.Prelude.{◌≡◌, ◌==◌, ◌++◌, ℕ, All, Bool, true, false, List, [], ◌∷◌, Option, None, Some}
use Rattle.std.specs.Io.KnownBytes.{Consumes, IsAtEnd}
use Rattle.line_texts.specs.Lines.{lines_of}

-- The lines that were left are this one and those that are left now, which are none behind the last one.
abbrev pub TakesLine : (old new : Option (List ℕ)) → List ℕ → (is_last : Bool) → Type 0
TakesLine None new line is_last = Unit {0}
TakesLine (Some xs) new line true = lines_of xs ≡ line ∷ []
TakesLine (Some xs) None line false = ⊥
TakesLine (Some xs) (Some rest) line false = lines_of xs ≡ line ∷ lines_of rest

-- what stands behind a line
abbrev pub end_of_line : Bool → List ℕ
end_of_line true = []
end_of_line false = 10 ∷ []

-- the known bytes lost some without a newline, and then a newline, or all that were left
pub record PassesLine (old new : Option (List ℕ)) (is_last : Bool) : Type 0 where
  pub bytes : List ℕ
  pub within : All (λ byte. (byte == 10) ≡ false) bytes
  pub passed : Consumes old new (bytes ++ end_of_line is_last)
  pub end : is_last ≡ true → IsAtEnd new
