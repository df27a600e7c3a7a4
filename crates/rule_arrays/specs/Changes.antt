-- Rows that change: which goals have other candidates than before, and which can reach one of these.
use Rattle.std.specs.Prelude.{◌≡◌, ℕ, Contains, List}
use Rattle.rule_arrays.specs.Table.{Candidate, Table, candidates_of}
use Rattle.rule_arrays.specs.declared.rows.QuestionRow.{QuestionRow}

-- the goal has other candidates
abbrev pub IsChanged : Table → Table → ℕ → Type 0
IsChanged old new goal = candidates_of old goal ≡ candidates_of new goal → ⊥

-- one of these questions asks the goal
pub record IsAskedIn (questions : List QuestionRow) (asked : ℕ) : Type 0 where
  pub question : QuestionRow
  pub is_question : Contains questions question
  pub is_asked : question.goal ≡ asked

-- one of these candidates asks the goal
pub record IsAskedBy (candidates : List Candidate) (asked : ℕ) : Type 0 where
  pub candidate : Candidate
  pub is_candidate : Contains candidates candidate
  pub asks : IsAskedIn candidate.questions asked

-- a goal asks another one
abbrev pub Asks : Table → ℕ → ℕ → Type 0
Asks table goal asked = IsAskedBy (candidates_of table goal) asked

-- the goal changed, or asks one that is concerned
pub data IsConcerned (old new : Table) : ℕ → Type 0 where
  changed : (goal : ℕ) → IsChanged old new goal → IsConcerned old new goal
  asks : (goal asked : ℕ) → Asks new goal asked → IsConcerned old new asked → IsConcerned old new goal
