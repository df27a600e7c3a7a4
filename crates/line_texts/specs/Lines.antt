-- The lines of a text, their words, and names.
use Rattle.std.specs.Prelude.{◌≡◌, ◌==◌, ℕ, ◌+◌, ◌<◌, ◌≤◌, nat_lt, All, Bool, ◌||◌, List, filter, length}
use Rattle.std.specs.Prelude.{slice_get, Some, take}
use Rattle.std.specs.Char.{is_ascii_alphanumeric}
use Rattle.std.specs.List.{slice_split, AllPass}

-- the lines of a text, which newlines part
abbrev pub lines_of : List ℕ → List (List ℕ)
lines_of text = slice_split (λ byte. byte == 10) text

-- the words of a line, which spaces part
abbrev pub words_of : List ℕ → List (List ℕ)
words_of line = filter (λ word. nat_lt 0 (length word)) (slice_split (λ byte. byte == 32) line)

-- an ASCII letter, a digit or `_`
abbrev pub is_name_byte : ℕ → Bool
is_name_byte byte = is_ascii_alphanumeric byte || byte == 95

-- NAME
pub record IsName (word : List ℕ) : Type 0 where
  pub is_some : 0 < length word
  pub is_short : length word ≤ 16
  pub bytes : AllPass is_name_byte word

-- the grammar allows each line before this one, and not this one; lines are counted from 1
pub record IsFirstBadLine {S : Type 0} (Says : List ℕ → S → Type 0) (IsMalformed : List ℕ → Type 0)
    (text : List ℕ) (number : ℕ) : Type 0 where
  pub before : ℕ
  pub count : number ≡ before + 1
  pub line : List ℕ
  pub is_line : slice_get (lines_of text) before ≡ Some line
  pub is_malformed : IsMalformed line
  pub allowed : All (λ earlier. (s : S) × Says earlier s) (take before (lines_of text))
