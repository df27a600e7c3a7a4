-- The input: rules and questions, one a line.
use Rattle.std.specs.Prelude.{◌≡◌, ℕ, ◌<◌, ◌≤◌, Bool, true, false, List, [], ◌∷◌, length, codes}
use Rattle.std.specs.Char.{is_ascii_digit}
use Rattle.std.specs.List.{AllPass, AllZip}
use Rattle.std.specs.Str.Parse.{digits_value}
use Rattle.line_texts.specs.Lines.{IsName, words_of}
use Rattle.rule_tables.specs.Below.{PathKind, Inductive, Unknown, Coinductive, ForcedAmbiguity}

-- DEPTH
pub record IsDepth (word : List ℕ) : Type 0 where
  pub is_some : 0 < length word
  pub is_short : length word ≤ 7
  pub digits : AllPass is_ascii_digit word

-- the letter of a kind
abbrev pub letter_of : PathKind → ℕ
letter_of Inductive = 105
letter_of Unknown = 117
letter_of Coinductive = 99
letter_of ForcedAmbiguity = 102

-- a goal's name, asked with a kind
pub record NamedQuestion : Type 0 where
  pub kind : PathKind
  pub name : List ℕ

-- the word is K:NAME
pub record IsQuestion (word : List ℕ) (question : NamedQuestion) : Type 0 where
  pub spelled : word ≡ letter_of question.kind ∷ 58 ∷ question.name
  pub is_name : IsName question.name

-- NAME, or ~NAME where the candidate is marked
abbrev pub head_word : Bool → List ℕ → List ℕ
head_word true name = 126 ∷ name
head_word false name = name

-- what a line says
pub data Statement : Type 0 where
  Nothing : Statement
  Rule : Bool → List ℕ → List NamedQuestion → Statement
  Ask : ℕ → List ℕ → Statement

-- no word, or a first word that begins with `#`
abbrev pub IsPassedOver : List (List ℕ) → Type 0
IsPassedOver [] = Unit {0}
IsPassedOver (word ∷ words) = (rest : List ℕ) × (word ≡ 35 ∷ rest)

-- the words are `rule HEAD = QUESTION ..`
pub record IsRule (words : List (List ℕ)) (is_marked : Bool) (name : List ℕ)
    (questions : List NamedQuestion) : Type 0 where
  pub asked : List (List ℕ)
  pub spelled : words ≡ codes "rule" ∷ head_word is_marked name ∷ codes "=" ∷ asked
  pub is_name : IsName name
  pub are_questions : AllZip IsQuestion asked questions

-- the words are `ask DEPTH NAME`
pub record IsAsk (words : List (List ℕ)) (depth : ℕ) (name : List ℕ) : Type 0 where
  pub digits : List ℕ
  pub spelled : words ≡ codes "ask" ∷ digits ∷ name ∷ []
  pub is_depth : IsDepth digits
  pub value : depth ≡ digits_value 10 digits
  pub is_name : IsName name

-- the words say the statement
abbrev pub Say : List (List ℕ) → Statement → Type 0
Say words Nothing = IsPassedOver words
Say words (Rule is_marked name questions) = IsRule words is_marked name questions
Say words (Ask depth name) = IsAsk words depth name

-- the line says the statement
abbrev pub Says : List ℕ → Statement → Type 0
Says line = Say (words_of line)

-- the line says nothing that the grammar allows
abbrev pub IsMalformed : List ℕ → Type 0
IsMalformed line = (s : Statement) → Says line s → ⊥
