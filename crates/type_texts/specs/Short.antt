-- Statements of which a table has room for the names that it keeps.
use Rattle.std.specs.Prelude.{length, ◌≤◌, All}
use Rattle.type_texts.specs.Grammar.{Ask, Base, Bottom, Declare, Function, Meaning, NamedField, Nothing, Record}
use Rattle.type_texts.specs.Grammar.{Statement, Top, Union}

abbrev pub HasShortName : NamedField → Type 0
HasShortName field = length field.name ≤ 16

-- the word of a base type and the names of fields
abbrev pub HasShortParts : Meaning → Type 0
HasShortParts (Base word) = length word ≤ 16
HasShortParts Top = Unit {0}
HasShortParts Bottom = Unit {0}
HasShortParts (Function argument outcome) = Unit {0}
HasShortParts (Record fields) = All HasShortName fields
HasShortParts (Union names) = Unit {0}

-- and the name that is declared
abbrev pub HasShortWords : Statement → Type 0
HasShortWords Nothing = Unit {0}
HasShortWords (Declare name meaning) = (length name ≤ 16) × HasShortParts meaning
HasShortWords (Ask left right) = Unit {0}
