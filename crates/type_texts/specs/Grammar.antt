-- The input: declarations of types and questions, one a line.
use Rattle.std.specs.Prelude.{◌≡◌, ℕ, ◌≤◌, List, [], ◌∷◌, ◌++◌, All, length, map, Some, slice_get, codes}
use Rattle.std.specs.List.{flat_map}
use Rattle.line_texts.specs.Lines.{IsName, words_of}

-- no name stands at two places
abbrev pub AreDistinct : List (List ℕ) → Type 0
AreDistinct names = (i j : ℕ) (name : List ℕ) → slice_get names i ≡ Some name → slice_get names j ≡ Some name → i ≡ j

-- a field of a record, by its name and that of its type
pub record NamedField : Type 0 where
  pub name : List ℕ
  pub part : List ℕ

-- what a type is, by the names of its parts
pub data Meaning : Type 0 where
  Base : List ℕ → Meaning
  Top : Meaning
  Bottom : Meaning
  Function : List ℕ → List ℕ → Meaning
  Record : List NamedField → Meaning
  Union : List (List ℕ) → Meaning

-- what a line says
pub data Statement : Type 0 where
  Nothing : Statement
  Declare : List ℕ → Meaning → Statement
  Ask : List ℕ → List ℕ → Statement

-- FIELD: NAME
abbrev pub field_words : NamedField → List (List ℕ)
field_words field = (field.name ++ codes ":") ∷ field.part ∷ []

pub record IsField (field : NamedField) : Type 0 where
  pub is_name : IsName field.name
  pub is_part : IsName field.part

-- the words after the opening brace are fields, none twice, and the closing brace
pub record AreFields (words : List (List ℕ)) (fields : List NamedField) : Type 0 where
  pub spelled : words ≡ flat_map field_words fields ++ codes "}" ∷ []
  pub are_fields : All IsField fields
  pub distinct : AreDistinct (map (λ field. field.name) fields)

-- NAME |
abbrev pub barred : List ℕ → List (List ℕ)
barred name = name ∷ codes "|" ∷ []

-- the words are two names or more, each but the last with a bar after it
pub record AreAlternatives (words names : List (List ℕ)) : Type 0 where
  pub spelled : words ++ codes "|" ∷ [] ≡ flat_map barred names
  pub are_two : 2 ≤ length names
  pub are_names : All IsName names

-- the words after `=` say that a type is this
abbrev pub Spell : List (List ℕ) → Meaning → Type 0
Spell words (Base word) = (words ≡ codes "base" ∷ word ∷ []) × IsName word
Spell words Top = words ≡ codes "top" ∷ []
Spell words Bottom = words ≡ codes "bottom" ∷ []
Spell words (Function argument outcome) =
    (words ≡ argument ∷ codes "->" ∷ outcome ∷ []) × IsName argument × IsName outcome
Spell words (Record fields) = (inside : List (List ℕ)) × (words ≡ codes "{" ∷ inside) × AreFields inside fields
Spell words (Union names) = AreAlternatives words names

-- no word, or a first word that begins with `#`
abbrev pub IsPassedOver : List (List ℕ) → Type 0
IsPassedOver [] = Unit {0}
IsPassedOver (word ∷ words) = (rest : List ℕ) × (word ≡ 35 ∷ rest)

-- the words are `type NAME = ..`
pub record IsDeclaration (words : List (List ℕ)) (name : List ℕ) (meaning : Meaning) : Type 0 where
  pub written : List (List ℕ)
  pub spelled : words ≡ codes "type" ∷ name ∷ codes "=" ∷ written
  pub is_name : IsName name
  pub means : Spell written meaning

-- the words are `ask NAME < NAME`
pub record IsAsk (words : List (List ℕ)) (left right : List ℕ) : Type 0 where
  pub spelled : words ≡ codes "ask" ∷ left ∷ codes "<" ∷ right ∷ []
  pub is_left : IsName left
  pub is_right : IsName right

-- the words say the statement
abbrev pub Say : List (List ℕ) → Statement → Type 0
Say words Nothing = IsPassedOver words
Say words (Declare name meaning) = IsDeclaration words name meaning
Say words (Ask left right) = IsAsk words left right

-- the line says the statement
abbrev pub Says : List ℕ → Statement → Type 0
Says line = Say (words_of line)

-- the words are none of a right side
abbrev pub SpellNothing : List (List ℕ) → Type 0
SpellNothing words = (meaning : Meaning) → Spell words meaning → ⊥

-- the words are none of a line
abbrev pub SayNothing : List (List ℕ) → Type 0
SayNothing words = (statement : Statement) → Say words statement → ⊥

-- the line says nothing that the grammar allows
abbrev pub IsMalformed : List ℕ → Type 0
IsMalformed line = SayNothing (words_of line)
