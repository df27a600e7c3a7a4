-- Why a part of the reading failed.
use Rattle.std.specs.Prelude.{ℕ, List}
use Rattle.type_texts.specs.declared.reading.ReadFault.{ReadFault}
use Rattle.type_texts.specs.declared.reading.ReadFault.TheVariants.{BadLine, Memory, Twice, Undeclared, Unguarded}
use Rattle.type_texts.specs.Grammar.{Statement}
use Rattle.type_texts.specs.Text.{DeclaresAgain, IsFirstBadLine, NamesUndeclared}

-- a line is malformed, or memory is out
abbrev pub IsOfLines : List ℕ → ReadFault → Type 0
IsOfLines text (BadLine n) = IsFirstBadLine text n
IsOfLines text (Twice n) = ⊥
IsOfLines text (Undeclared n) = ⊥
IsOfLines text (Unguarded n) = ⊥
IsOfLines text Memory = Unit {0}

-- a name is declared twice, or memory is out
abbrev pub IsOfNames : List Statement → ReadFault → Type 0
IsOfNames statements (BadLine n) = ⊥
IsOfNames statements (Twice n) = DeclaresAgain statements n
IsOfNames statements (Undeclared n) = ⊥
IsOfNames statements (Unguarded n) = ⊥
IsOfNames statements Memory = Unit {0}

-- a name is undeclared, or memory is out
abbrev pub IsOfTable : List (List ℕ) → List Statement → ReadFault → Type 0
IsOfTable names statements (BadLine n) = ⊥
IsOfTable names statements (Twice n) = ⊥
IsOfTable names statements (Undeclared n) = NamesUndeclared names statements n
IsOfTable names statements (Unguarded n) = ⊥
IsOfTable names statements Memory = Unit {0}
