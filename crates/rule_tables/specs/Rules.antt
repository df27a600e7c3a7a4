-- What a table of rules says of goals.
use Rattle.std.specs.Prelude.{ℕ, List, Option, slice_get}
use Rattle.candidate_lists.specs.Candidate as lists
use Rattle.rule_tables.specs.Below.{Question}
use Rattle.rule_tables.specs.declared.rules.Goal.{Goal}
use Rattle.rule_tables.specs.declared.rules.Asking.{Asking}
use Rattle.rule_tables.specs.declared.rules.Rules.{Rules}
use Rattle.rule_tables.specs.Candidate.{Candidate, candidates_with}
use Rattle.rule_tables.specs.Starts.{rows_at}

-- the number of the goal's name
abbrev pub number_of : Goal → ℕ
number_of goal = goal.0

-- what a candidate asks
abbrev pub question_of : Asking → Question Goal
question_of a = record { kind = a.kind; goal = a.goal }

abbrev pub asked_by : Candidate → List (Question Goal)
asked_by = lists.asked_by question_of

-- the names that the table knows, in the order of their numbers
abbrev pub names_of : Rules → List (List ℕ)
names_of rules = rules.names

-- the goal's name
abbrev pub name_of : Rules → Goal → Option (List ℕ)
name_of rules goal = slice_get (names_of rules) (number_of goal)

-- the depths and the goals that are asked
abbrev pub questions_of : Rules → List (ℕ × Goal)
questions_of rules = rules.questions.items

-- a goal without rules has no candidates
abbrev pub candidates_of : Rules → Goal → List Candidate
candidates_of rules goal =
    candidates_with rules.askings.items (rows_at rules.starts.items rules.rows.items (number_of goal))

-- some candidate has all its questions among these
abbrev pub Proves : Rules → Goal → List (Question Goal) → Type 0
Proves rules goal = lists.Proves question_of (candidates_of rules goal)

-- each candidate has a question among these
abbrev pub Refutes : Rules → Goal → List (Question Goal) → Type 0
Refutes rules goal = lists.Refutes question_of (candidates_of rules goal)
