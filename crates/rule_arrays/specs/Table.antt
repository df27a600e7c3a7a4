-- What rows say of goals.
use Rattle.std.specs.Prelude.{ℕ, ◌+◌, ◌==◌, false, not, if◌then◌else◌, List, [], ◌∷◌, length, map, sum_by, take, drop}
use Rattle.std.specs.Prelude.{slice_get, Option, Some, None}
use Rattle.path_kinds.specs.declared.path.PathKind.{PathKind}
use Rattle.path_kinds.specs.declared.path.PathKind.TheVariants.{Inductive, Unknown, Coinductive, ForcedAmbiguity}
use Rattle.search_context.specs.Question.{Question}
use Rattle.candidate_lists.specs.Candidate as lists
use Rattle.candidate_lists.specs.Frame.{steps_of}
use Rattle.rule_arrays.specs.declared.rows.GoalRow.{GoalRow}
use Rattle.rule_arrays.specs.declared.rows.CandidateRow.{CandidateRow}
use Rattle.rule_arrays.specs.declared.rows.QuestionRow.{QuestionRow}

-- all rows
pub record Table : Type 0 where
  pub goals : List GoalRow
  pub candidates : List CandidateRow
  pub questions : List QuestionRow

abbrev pub table_with : List GoalRow → List CandidateRow → List QuestionRow → Table
table_with goals candidates questions = record { goals = goals; candidates = candidates; questions = questions }

-- so many elements from a place on; where the list ends before, fewer
abbrev pub part_of : {A : Type 0} → List A → ℕ → ℕ → List A
part_of xs first count = take count (drop first xs)

-- the kind of a step with this number
abbrev pub kind_of : ℕ → PathKind
kind_of number = if number == 0 then Inductive else
    (if number == 1 then Unknown else (if number == 2 then Coinductive else ForcedAmbiguity))

abbrev pub question_of : QuestionRow → Question ℕ
question_of row = record { kind = kind_of row.kind; goal = row.goal }

abbrev pub Candidate : Type 0
Candidate = lists.Candidate QuestionRow

-- the candidate of a row
abbrev pub candidate_with : List QuestionRow → CandidateRow → Candidate
candidate_with questions row =
    record { is_marked = not (row.is_marked == 0); questions = part_of questions row.first row.count }

-- the one candidate of a goal that says maybe: it asks the goal itself by forced ambiguity
abbrev pub unknown : ℕ → Candidate
unknown goal = record { is_marked = false; questions = record { kind = 3; goal = goal } ∷ [] }

abbrev pub candidates_by : Table → ℕ → Option GoalRow → List Candidate
candidates_by table goal None = []
candidates_by table goal (Some row) =
    if row.count == 4294967295 then unknown goal ∷ []
    else map (candidate_with table.questions) (part_of table.candidates row.first row.count)

-- the candidates of a goal; a number that is no goal's has none
abbrev pub candidates_of : Table → ℕ → List Candidate
candidates_of table goal = candidates_by table goal (slice_get table.goals goal)

-- no goal's frame takes more steps: one that says maybe takes 7
abbrev pub most_steps : Table → ℕ
most_steps table =
    sum_by steps_of (map (candidate_with table.questions) table.candidates) + length table.candidates + 7
