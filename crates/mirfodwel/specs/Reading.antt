-- What a text is read into.
use Rattle.std.specs.Prelude.{◌≡◌, ◌↔◌, ℕ, Bool, List, length, IsTrue}
use Rattle.rule_tables.specs.Rules.{names_of}
use Rattle.rule_tables.specs.declared.rules.Rules.{Rules}
use Rattle.rule_arrays.specs.Rows.{AreRowsOf, names_text}
use Rattle.rule_arrays.specs.Table.{table_with}
use Rattle.rule_arrays.specs.Written.{HaveRoom, sizes_of, written}
use Rattle.rule_arrays.specs.declared.rows.GoalRow.{GoalRow}
use Rattle.rule_arrays.specs.declared.rows.CandidateRow.{CandidateRow}
use Rattle.rule_arrays.specs.declared.rows.QuestionRow.{QuestionRow}
use Rattle.rule_arrays.specs.declared.table_rows.Sizes.{Sizes}
use Rattle.rule_arrays.specs.declared.table_rows.TableRows.{TableRows}

-- the lists of the caller
pub record Lists : Type 0 where
  pub goals : List GoalRow
  pub candidates : List CandidateRow
  pub questions : List QuestionRow
  pub names : List ℕ

abbrev pub lists : List GoalRow → List CandidateRow → List QuestionRow → List ℕ → Lists
lists goals candidates questions names =
    record { goals = goals; candidates = candidates; questions = questions; names = names }

-- The rows are those of the rules, with their names. They stand at the beginning of the lists exactly where each of
-- these has room, and else nothing is written; the sizes are theirs.
pub record AreWritten (rules : Rules) (old new : Lists) (sizes : Sizes) (is_written : Bool) : Type 0 where
  pub rows : TableRows
  pub are_rows : AreRowsOf rules (table_with rows.goals.items rows.candidates.items rows.questions.items)
  pub are_names : rows.names.items ≡ names_text (names_of rules)
  pub are_sizes : sizes ≡ sizes_of rows
  pub fits : IsTrue is_written ↔ HaveRoom rows (length old.goals) (length old.candidates) (length old.questions)
      (length old.names)
  pub goals : new.goals ≡ written is_written rows.goals.items old.goals
  pub candidates : new.candidates ≡ written is_written rows.candidates.items old.candidates
  pub questions : new.questions ≡ written is_written rows.questions.items old.questions
  pub names : new.names ≡ written is_written rows.names.items old.names
