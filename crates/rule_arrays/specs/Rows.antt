-- The rows of a table of rules.
use Rattle.std.specs.Prelude.{◌≡◌, ℕ, ◌+◌, ◌<◌, ◌≤◌, Bool, true, false}
use Rattle.std.specs.Prelude.{List, [], ◌∷◌, ◌++◌, length, map, slice_get, Contains, Some}
use Rattle.std.specs.List.{AllZip, flat_map}
use Rattle.path_kinds.specs.declared.path.PathKind.{PathKind}
use Rattle.path_kinds.specs.declared.path.PathKind.TheVariants.{Inductive, Unknown, Coinductive, ForcedAmbiguity}
use Rattle.search_context.specs.Question.{Question}
use Rattle.candidate_lists.specs.Candidate as lists
use Rattle.rule_tables.specs.Rules as tables
use Rattle.rule_tables.specs.declared.rules.Asking.{Asking}
use Rattle.rule_tables.specs.declared.rules.Goal.{Goal}
use Rattle.rule_tables.specs.declared.rules.Rules.{Rules}
use Rattle.rule_arrays.specs.Faults.{IsCandidateRow}
use Rattle.rule_arrays.specs.Table.{Table, candidates_of, part_of, question_of}
use Rattle.rule_arrays.specs.declared.rows.GoalRow.{GoalRow}
use Rattle.rule_arrays.specs.declared.rows.CandidateRow.{CandidateRow}
use Rattle.rule_arrays.specs.declared.rows.QuestionRow.{QuestionRow}

-- a candidate as a table of rules has it
abbrev pub Written : Type 0
Written = lists.Candidate Asking

-- the number of a kind
abbrev pub number_of : PathKind → ℕ
number_of Inductive = 0
number_of Unknown = 1
number_of Coinductive = 2
number_of ForcedAmbiguity = 3

-- the row of a question
abbrev pub row_of : Asking → QuestionRow
row_of asking = record { kind = number_of asking.kind; goal = tables.number_of asking.goal }

abbrev pub number_of_mark : Bool → ℕ
number_of_mark false = 0
number_of_mark true = 1

-- the row has the candidate's mark and its questions
pub record IsRowOf (questions : List QuestionRow) (row : CandidateRow) (candidate : Written) : Type 0 where
  pub mark : row.is_marked ≡ number_of_mark candidate.is_marked
  pub within : row.first + row.count ≤ length questions
  pub asks : part_of questions row.first row.count ≡ map row_of candidate.questions

-- the row has these candidates
pub record IsGoalOf (candidates : List CandidateRow) (questions : List QuestionRow) (row : GoalRow)
    (written : List Written) : Type 0 where
  pub known : row.count < 4294967295
  pub within : row.first + row.count ≤ length candidates
  pub has : AllZip (IsRowOf questions) (part_of candidates row.first row.count) written

-- some candidate of these has the row's question
pub record IsAskedIn (written : List Written) (row : QuestionRow) : Type 0 where
  pub candidate : Written
  pub is_candidate : Contains written candidate
  pub asking : Asking
  pub is_asking : Contains candidate.questions asking
  pub same : row ≡ row_of asking

-- one more candidate has its rows
pub record Adds (old new : List CandidateRow) (asked all : List QuestionRow) (candidate : Written) : Type 0 where
  pub row : CandidateRow
  pub candidates : new ≡ old ++ row ∷ []
  pub questions : all ≡ asked ++ map row_of candidate.questions
  pub is_row : IsRowOf all row candidate

-- some more candidates have theirs
pub record AddsAll (old new : List CandidateRow) (asked all : List QuestionRow) (written : List Written) : Type 0 where
  pub rows : List CandidateRow
  pub more : List QuestionRow
  pub candidates : new ≡ old ++ rows
  pub questions : all ≡ asked ++ more
  pub are_rows : AllZip (IsRowOf all) rows written
  pub are_asked : (row : QuestionRow) → Contains more row → IsAskedIn written row

-- so does one more goal
pub record AddsGoal (before after : List GoalRow) (old new : List CandidateRow) (asked all : List QuestionRow)
    (written : List Written) : Type 0 where
  pub row : GoalRow
  pub goals : after ≡ before ++ row ∷ []
  pub adds : AddsAll old new asked all written
  pub is_goal : IsGoalOf new all row written

pub record HasGoal (goals : List GoalRow) (candidates : List CandidateRow) (questions : List QuestionRow) (number : ℕ)
    (written : List Written) : Type 0 where
  pub row : GoalRow
  pub is_at : slice_get goals number ≡ Some row
  pub is_goal : IsGoalOf candidates questions row written

-- some candidate of the first so many goals has the row's question
pub record IsAskedOf (rules : Rules) (count : ℕ) (row : QuestionRow) : Type 0 where
  pub goal : Goal
  pub is_goal : tables.number_of goal < count
  pub is_asked : IsAskedIn (tables.candidates_of rules goal) row

-- the first so many goals of the table have theirs
pub record HaveRows (rules : Rules) (goals : List GoalRow) (candidates : List CandidateRow)
    (questions : List QuestionRow) (count : ℕ) : Type 0 where
  pub counted : length goals ≡ count
  pub each : (goal : Goal) → tables.number_of goal < count →
      HasGoal goals candidates questions (tables.number_of goal) (tables.candidates_of rules goal)
  pub rows : (row : CandidateRow) → Contains candidates row → IsCandidateRow (length questions) 0 row
  pub asked : (row : QuestionRow) → Contains questions row → IsAskedOf rules count row

-- each name, with a newline behind it
abbrev pub names_text : List (List ℕ) → List ℕ
names_text = flat_map (λ name. name ++ 10 ∷ [])

-- what a question of the table asks, by the number of its goal
abbrev pub asked : Asking → Question ℕ
asked asking = record { kind = asking.kind; goal = tables.number_of asking.goal }

-- candidates in words of what they ask
abbrev pub asking_by : {Q : Type 0} → (Q → Question ℕ) → List (lists.Candidate Q) → List (lists.Candidate (Question ℕ))
asking_by ask = map (λ c. record { is_marked = c.is_marked; questions = map ask c.questions })

-- the rows have the candidates of each goal of the table, and nothing but these; goals stand by their numbers
pub record AreRowsOf (rules : Rules) (table : Table) : Type 0 where
  pub count : length table.goals ≡ length (tables.names_of rules)
  pub same : (goal : Goal) → tables.number_of goal < length (tables.names_of rules) →
      asking_by question_of (candidates_of table (tables.number_of goal))
      ≡ asking_by asked (tables.candidates_of rules goal)
