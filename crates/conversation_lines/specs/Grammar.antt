-- What a line of a conversation says: what a line of a table's text may say, or that the candidates of a name go.
use Rattle.std.specs.Prelude.{◌≡◌, ℕ, List, [], ◌∷◌, codes}
use Rattle.line_texts.specs.Lines.{IsName, words_of}
use Rattle.rule_tables.specs.Grammar as table

-- what a line says
pub data Saying : Type 0 where
  OfTable : table.Statement → Saying
  Forget : List ℕ → Saying

-- the words are `forget NAME`
pub record IsForget (words : List (List ℕ)) (name : List ℕ) : Type 0 where
  pub spelled : words ≡ codes "forget" ∷ name ∷ []
  pub is_name : IsName name

-- the line says this
abbrev pub Says : List ℕ → Saying → Type 0
Says line (OfTable statement) = table.Says line statement
Says line (Forget name) = IsForget (words_of line) name

-- the line says nothing that the grammar allows
abbrev pub IsMalformed : List ℕ → Type 0
IsMalformed line = (s : Saying) → Says line s → ⊥
