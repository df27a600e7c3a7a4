-- Rows that are written to slices.
use Rattle.std.specs.Prelude.{ℕ, ◌≤◌, Bool, if◌then◌else◌, List, ◌++◌, length, drop}
use Rattle.rule_arrays.specs.declared.table_rows.Sizes.{Sizes}
use Rattle.rule_arrays.specs.declared.table_rows.TableRows.{TableRows}

abbrev pub sizes_of : TableRows → Sizes
sizes_of rows = record {
  goals = length rows.goals.items;
  candidates = length rows.candidates.items;
  questions = length rows.questions.items;
  names = length rows.names.items;
}

-- slices of these lengths have room for all rows
pub record HaveRoom (rows : TableRows) (goals candidates questions names : ℕ) : Type 0 where
  pub for_goals : length rows.goals.items ≤ goals
  pub for_candidates : length rows.candidates.items ≤ candidates
  pub for_questions : length rows.questions.items ≤ questions
  pub for_names : length rows.names.items ≤ names

-- a slice after the elements are written to its beginning, if they are
abbrev pub written : {A : Type 0} → Bool → List A → List A → List A
written is_written all old = if is_written then all ++ drop (length all) old else old
