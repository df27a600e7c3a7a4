-- What a whole text says.
use Rattle.std.specs.Prelude.{◌≡◌, ℕ, ◌+◌, List, take, Some, length, slice_get}
use Rattle.std.specs.List.{AllZip, filter_map}
use Rattle.type_order.specs.Order.{AreDeclared, IsContractive}
use Rattle.type_texts.specs.declared.table.TypeTable.{TypeTable}
use Rattle.type_texts.specs.Grammar.{AreDistinct, IsMalformed, Says, Statement}
use Rattle.line_texts.specs.Lines as Lines
use Rattle.line_texts.specs.Lines.{lines_of}
use Rattle.type_texts.specs.Guard.{IsUnionOfItself}
use Rattle.type_texts.specs.Table.{forms_in, HasUndeclared, IsTableOf, name_in, named_in, names_of}

-- the names that the statements declare
abbrev pub declared_by : List Statement → List (List ℕ)
declared_by = filter_map name_in

-- Each line says a statement, each name is declared once, the statements make the table, each part of a type is
-- declared, and no type is a union of itself through unions alone.
pub record Reads (text : List ℕ) (types : TypeTable) : Type 0 where
  pub statements : List Statement
  pub lines : AllZip Says (lines_of text) statements
  pub names : names_of types ≡ declared_by statements
  pub distinct : AreDistinct (names_of types)
  pub is_table : IsTableOf statements types
  pub declared : AreDeclared (forms_in types)
  pub contractive : IsContractive (forms_in types)

-- the grammar allows each line before this one, and not this one; lines are counted from 1
abbrev pub IsFirstBadLine : List ℕ → ℕ → Type 0
IsFirstBadLine = Lines.IsFirstBadLine Says IsMalformed

-- the line declares a name that an earlier one declares, too
pub record DeclaresAgain (statements : List Statement) (number : ℕ) : Type 0 where
  pub before : ℕ
  pub count : number ≡ before + 1
  pub statement : Statement
  pub is_at : slice_get statements before ≡ Some statement
  pub name : List ℕ
  pub declares : name_in statement ≡ Some name
  pub earlier : ℕ
  pub is_earlier : slice_get (declared_by (take before statements)) earlier ≡ Some name

-- the line names a type that is none of these
pub record NamesUndeclared (names : List (List ℕ)) (statements : List Statement) (number : ℕ) : Type 0 where
  pub before : ℕ
  pub count : number ≡ before + 1
  pub statement : Statement
  pub is_at : slice_get statements before ≡ Some statement
  pub undeclared : HasUndeclared names (named_in statement)

-- the statements of the text declare a name a second time on this line
abbrev pub IsDeclaredTwice : List ℕ → ℕ → Type 0
IsDeclaredTwice text number =
    (statements : List Statement) × AllZip Says (lines_of text) statements × DeclaresAgain statements number

-- this line names a type that no statement of the text declares
abbrev pub IsUndeclared : List ℕ → ℕ → Type 0
IsUndeclared text number = (statements : List Statement) × AllZip Says (lines_of text) statements
    × NamesUndeclared (declared_by statements) statements number

-- the line declares the type of this number
pub record DeclaresType (statements : List Statement) (type line : ℕ) : Type 0 where
  pub before : ℕ
  pub count : line ≡ before + 1
  pub statement : Statement
  pub is_at : slice_get statements before ≡ Some statement
  pub name : List ℕ
  pub declares : name_in statement ≡ Some name
  pub is_type : type ≡ length (declared_by (take before statements))

-- this line of the text declares a type that is a union of itself through unions alone
pub record IsUnguarded (text : List ℕ) (line : ℕ) : Type 0 where
  pub statements : List Statement
  pub lines : AllZip Says (lines_of text) statements
  pub table : TypeTable
  pub is_table : IsTableOf statements table
  pub type : ℕ
  pub is_declared : DeclaresType statements type line
  pub is_union : IsUnionOfItself (forms_in table) type
