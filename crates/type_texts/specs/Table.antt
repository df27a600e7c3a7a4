-- The table that a text's statements make.
use Rattle.std.specs.Prelude.{◌≡◌, ℕ, List, [], ◌∷◌, ◌++◌, map, Contains, Option, Some, None, slice_get}
use Rattle.std.specs.List.{AllZip, filter_map}
use Rattle.type_order.specs.declared.types.Form.{Form}
use Rattle.type_order.specs.Subtypes.{forms_of}
use Rattle.type_order.specs.declared.types.Form.TheVariants as types
use Rattle.type_order.specs.declared.delegate.Pair.{Pair}
use Rattle.type_order.specs.declared.fields.Field.{Field}
use Rattle.type_texts.specs.declared.table.TypeTable.{TypeTable}
use Rattle.type_texts.specs.Grammar.{Ask, Base, Bottom, Declare, Function, Meaning, NamedField, Nothing, Record}
use Rattle.type_texts.specs.Grammar.{Statement, Top, Union}

-- the names of the types, in the order of their numbers
abbrev pub names_of : TypeTable → List (List ℕ)
names_of table = table.names

-- the words of base types and the names of fields, in the order of their numbers
abbrev pub labels_of : TypeTable → List (List ℕ)
labels_of table = table.words

-- what the types are
abbrev pub forms_in : TypeTable → List Form
forms_in table = forms_of table.types

-- the pairs that are asked
abbrev pub questions_of : TypeTable → List Pair
questions_of table = table.questions.items

-- the name that a statement declares
abbrev pub name_in : Statement → Option (List ℕ)
name_in Nothing = None
name_in (Declare name meaning) = Some name
name_in (Ask left right) = None

-- what it declares a type to be
abbrev pub meaning_in : Statement → Option Meaning
meaning_in Nothing = None
meaning_in (Declare name meaning) = Some meaning
meaning_in (Ask left right) = None

-- what it asks
abbrev pub question_in : Statement → Option (List ℕ × List ℕ)
question_in Nothing = None
question_in (Declare name meaning) = None
question_in (Ask left right) = Some (left, right)

-- the names of a type's parts
abbrev pub parts_in : Meaning → List (List ℕ)
parts_in (Base word) = []
parts_in Top = []
parts_in Bottom = []
parts_in (Function argument outcome) = argument ∷ outcome ∷ []
parts_in (Record fields) = map (λ field. field.part) fields
parts_in (Union names) = names

-- the types that it names but for the one that it declares
abbrev pub named_in : Statement → List (List ℕ)
named_in Nothing = []
named_in (Declare name meaning) = parts_in meaning
named_in (Ask left right) = left ∷ right ∷ []

-- the number is that of the name
abbrev pub IsNumberOf : List (List ℕ) → ℕ → List ℕ → Type 0
IsNumberOf names number name = slice_get names number ≡ Some name

-- one of these names is no type's
pub record HasUndeclared (names used : List (List ℕ)) : Type 0 where
  pub name : List ℕ
  pub is_used : Contains used name
  pub is_undeclared : (number : ℕ) → IsNumberOf names number name → ⊥

module _ (names labels : List (List ℕ)) where
  -- the same field
  pub record IsSameField (field : Field) (written : NamedField) : Type 0 where
    pub name : slice_get labels field.name ≡ Some written.name
    pub part : IsNumberOf names field.part written.part

  -- the form is what is written
  abbrev pub IsForm : Form → Meaning → Type 0
  IsForm (types.Base n) (Base word) = slice_get labels n ≡ Some word
  IsForm types.Top Top = Unit {0}
  IsForm types.Bottom Bottom = Unit {0}
  IsForm (types.Function a b) (Function argument outcome) = IsNumberOf names a argument × IsNumberOf names b outcome
  IsForm (types.Record fields) (Record written) = AllZip IsSameField fields.items written
  IsForm (types.Union numbers) (Union written) = AllZip (IsNumberOf names) numbers.items written
  IsForm form meaning = ⊥

-- the new table has the same labels with the same numbers, and maybe more, and is the same in all else
pub record GrowsLabels (old new : TypeTable) : Type 0 where
  pub kept : (number : ℕ) (label : List ℕ) → slice_get (labels_of old) number ≡ Some label
      → slice_get (labels_of new) number ≡ Some label
  pub names : names_of new ≡ names_of old
  pub forms : forms_in new ≡ forms_in old
  pub questions : questions_of new ≡ questions_of old

-- the same question
pub record IsAsked (names : List (List ℕ)) (pair : Pair) (written : List ℕ × List ℕ) : Type 0 where
  pub left : IsNumberOf names pair.left written.0
  pub right : IsNumberOf names pair.right written.1

-- the types and the questions are those of the statements, in order
pub record IsTableOf (statements : List Statement) (table : TypeTable) : Type 0 where
  pub forms : AllZip (IsForm (names_of table) (labels_of table)) (forms_in table) (filter_map meaning_in statements)
  pub questions : AllZip (IsAsked (names_of table)) (questions_of table) (filter_map question_in statements)

-- the new table has one more statement than the old one, and the same names
pub record Adds (statement : Statement) (old new : TypeTable) : Type 0 where
  pub names : names_of new ≡ names_of old
  pub more : (statements : List Statement) → IsTableOf statements old → (all : List Statement)
      → all ≡ statements ++ statement ∷ [] → IsTableOf all new
