-- Names and their numbers.
use Rattle.std.specs.Prelude.{ℕ, ◌≡◌, ◌+◌, ◌*◌, ◌/◌, ◌%◌, ◌^◌, ◌<◌, ◌≤◌, Bool, List, [], ◌∷◌, ◌++◌, Some}
use Rattle.std.specs.Prelude.{length, take, slice_get, slice_index_or, if◌then◌else◌}
use Rattle.std.specs.List.{IsDistinct, list_any}
use Rattle.std.specs.Str.{bytes_eq}
use Rattle.line_texts.specs.Letters.{head_of, letters_of}
use Rattle.line_texts.specs.declared.names.name.Name.{Name}

-- the bytes of a name
abbrev pub text_of : Name → List ℕ
text_of name = take name.length name.bytes

-- two names are the same
abbrev pub same_name : Name → Name → Bool
same_name x y = bytes_eq (text_of x) (text_of y)

-- the names with one more, unless it is there
abbrev pub with_name : List (List ℕ) → List ℕ → List (List ℕ)
with_name names name = if list_any (bytes_eq name) names then names else names ++ name ∷ []

-- ---- how a name is found

-- where a slot links to
abbrev pub link_of : List ℕ → ℕ → ℕ
link_of links slot = slice_index_or links slot 0

-- The way from a slot leads to the goal: it links there, or to another name, with two slots of its own, of which the
-- last bit of the letters takes one. A link that does not lead on is none.
pub data LeadsTo (links : List ℕ) (goal : ℕ) : ℕ → ℕ → Type 0 where
  here : {slot letters : ℕ} → slot < goal → link_of links slot ≡ goal → LeadsTo links goal slot letters
  on : {slot letters : ℕ} → slot < link_of links slot
      → LeadsTo links goal (link_of links slot + letters % 2) (letters / 2) → LeadsTo links goal slot letters

-- The heads are the first slots, and behind them each name has two. The ways of the first so many names lead there.
pub record AreLinked (heads : ℕ) (links : List ℕ) (names : List Name) (count : ℕ) : Type 0 where
  pub room : length links ≡ 3 * heads
  pub few : heads ≤ 2 ^ 30
  pub led : (n : ℕ) (name : Name) → n < count → slice_get names n ≡ Some name
      → LeadsTo links (heads + 2 * n) (head_of (letters_of (text_of name)) heads) (letters_of (text_of name))

-- no two names are the same, and each is found
pub record AreFound (heads : ℕ) (links : List ℕ) (names : List Name) : Type 0 where
  pub enough : length names ≤ heads
  pub linked : AreLinked heads links names (length names)
  pub distinct : IsDistinct same_name names
