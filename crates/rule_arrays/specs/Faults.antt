-- Rows that are in order, and the first one that is not.
use Rattle.std.specs.Prelude.{◌≡◌, ℕ, ◌+◌, ◌<◌, ◌≤◌, List, length, slice_get, Some}
use Rattle.rule_arrays.specs.Table.{Table}
use Rattle.rule_arrays.specs.declared.faults.RowFault.{RowFault}
use Rattle.rule_arrays.specs.declared.faults.RowFault.TheVariants as faults
use Rattle.rule_arrays.specs.declared.rows.GoalRow.{GoalRow}
use Rattle.rule_arrays.specs.declared.rows.CandidateRow.{CandidateRow}
use Rattle.rule_arrays.specs.declared.rows.QuestionRow.{QuestionRow}

-- a goal's number is at most 4294967293, and its candidates are within the list of so many, if they are known
pub record IsGoalRow (candidates place : ℕ) (row : GoalRow) : Type 0 where
  pub few : place + 1 < 4294967295
  pub within : (row.count ≡ 4294967295 → ⊥) → row.first + row.count ≤ candidates

-- a candidate's questions are within the list of so many
pub record IsCandidateRow (questions place : ℕ) (row : CandidateRow) : Type 0 where
  pub within : row.first + row.count ≤ questions
  pub mark : row.is_marked ≤ 1

-- a question is by a kind that there is, about one of so many goals
pub record IsQuestionRow (goals place : ℕ) (row : QuestionRow) : Type 0 where
  pub kind : row.kind ≤ 3
  pub goal : row.goal < goals

abbrev pub AreAll : {A : Type 0} → (ℕ → A → Type 0) → List A → Type 0
AreAll {A} IsRow rows = (place : ℕ) (row : A) → slice_get rows place ≡ Some row → IsRow place row

abbrev pub AreBefore : {A : Type 0} → (ℕ → A → Type 0) → List A → ℕ → Type 0
AreBefore {A} IsRow rows place =
    (other : ℕ) (row : A) → other < place → slice_get rows other ≡ Some row → IsRow other row

-- the rows before this place are in order, and the one that stands there is not
pub record IsFirstBad {A : Type 0} (IsRow : ℕ → A → Type 0) (rows : List A) (place : ℕ) : Type 0 where
  pub before : AreBefore IsRow rows place
  pub bad : A
  pub is_at : slice_get rows place ≡ Some bad
  pub is_bad : IsRow place bad → ⊥

abbrev pub AreGoals : Table → Type 0
AreGoals table = AreAll (IsGoalRow (length table.candidates)) table.goals

abbrev pub AreCandidates : Table → Type 0
AreCandidates table = AreAll (IsCandidateRow (length table.questions)) table.candidates

-- all rows are in order
pub record IsTable (table : Table) : Type 0 where
  pub goals : AreGoals table
  pub candidates : AreCandidates table
  pub questions : AreAll (IsQuestionRow (length table.goals)) table.questions

-- goals come first, then candidates, then questions
abbrev pub IsFirstFault : Table → RowFault → Type 0
IsFirstFault table (faults.Goal place) = IsFirstBad (IsGoalRow (length table.candidates)) table.goals place
IsFirstFault table (faults.Candidate place) =
    AreGoals table × IsFirstBad (IsCandidateRow (length table.questions)) table.candidates place
IsFirstFault table (faults.Question place) =
    AreGoals table × AreCandidates table × IsFirstBad (IsQuestionRow (length table.goals)) table.questions place
