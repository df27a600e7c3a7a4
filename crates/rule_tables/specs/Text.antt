-- What a whole text says.
use Rattle.std.specs.Prelude.{ℕ, List}
use Rattle.std.specs.List.{AllZip}
use Rattle.rule_tables.specs.declared.rules.Rules.{Rules}
use Rattle.line_texts.specs.Lines as Lines
use Rattle.line_texts.specs.Lines.{lines_of}
use Rattle.rule_tables.specs.Grammar.{Statement, Says, IsMalformed}
use Rattle.rule_tables.specs.Table.{IsTableOf}

-- each line says a statement, and the statements make the table
pub record Reads (text : List ℕ) (rules : Rules) : Type 0 where
  pub statements : List Statement
  pub lines : AllZip Says (lines_of text) statements
  pub table : IsTableOf statements rules

-- the grammar allows each line before this one, and not this one; lines are counted from 1
abbrev pub IsFirstBadLine : List ℕ → ℕ → Type 0
IsFirstBadLine = Lines.IsFirstBadLine Says IsMalformed
