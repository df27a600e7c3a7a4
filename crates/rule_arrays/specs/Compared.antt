-- The candidates of goals as they are compared and read.
use Rattle.std.specs.Prelude.{◌≡◌, ℕ, List, [], ◌∷◌, map}
use Rattle.rule_arrays.specs.Table.{Candidate, Table, candidate_with, table_with}
use Rattle.rule_arrays.specs.declared.rows.Arrays.{Arrays}
use Rattle.rule_arrays.specs.declared.changes.compared.Candidates.{Candidates}
use Rattle.rule_arrays.specs.declared.changes.compared.Unknown.{Unknown}

-- the rows as a table
abbrev pub table_in : Arrays → Table
table_in arrays = table_with arrays.goals.now arrays.candidates.now arrays.questions.now

-- the candidates of these rows
abbrev pub candidates_in : Candidates → List Candidate
candidates_in candidates = map (candidate_with candidates.questions.now) candidates.rows.now

-- it is what a goal has whose candidates are not known
pub record IsUnknown (goal : ℕ) (unknown : Unknown) : Type 0 where
  pub row : unknown.row ≡ record { first = 0; count = 1; is_marked = 0 } ∷ []
  pub question : unknown.question ≡ record { kind = 3; goal = goal } ∷ []
