-- A table of rules that changes: what it has of goals, and which goals can reach one by asking.
use Rattle.std.specs.Prelude.{◌≡◌, ◌↔◌, ℕ, ◌+◌, ◌<◌, ◌≤◌, ◌^◌, List, [], length, map, sum_by, slice_get, Contains}
use Rattle.std.specs.Prelude.{Option, Vec}
use Rattle.std.specs.Option.{unwrap_or}
use Rattle.delegate_parts.specs.declared.outcome.Outcome.{Outcome}
use Rattle.search_context.specs.declared.context.Reply.{Reply}
use Rattle.search_context.specs.declared.context.Request.{Request}
use Rattle.candidate_lists.specs.Frame.{script_of, steps_for}
use Rattle.rule_tables.specs.Candidate.{Candidate}
use Rattle.rule_tables.specs.Rules.{number_of, question_of}
use Rattle.rule_tables.specs.declared.rules.Asking.{Asking}
use Rattle.rule_tables.specs.declared.rules.Goal.{Goal}
use Rattle.open_tables.specs.declared.table.Way.{Way}

-- the names, and the candidates of each goal, by the goals' numbers
pub record Table : Type 0 where
  pub names : List (List ℕ)
  pub candidates : List (List Candidate)

abbrev pub names_of : Table → List (List ℕ)
names_of table = table.names

-- the goal's name
abbrev pub name_of : Table → Goal → Option (List ℕ)
name_of table goal = slice_get table.names (number_of goal)

-- what stands at a place; behind the last one no candidates
abbrev pub candidates_at : List (List Candidate) → ℕ → List Candidate
candidates_at all place = unwrap_or (slice_get all place) []

-- a goal without rules has none
abbrev pub candidates_of : Table → Goal → List Candidate
candidates_of table goal = candidates_at table.candidates (number_of goal)

-- how the goal is worked out
abbrev pub scripts_of : Table → Goal → List (Reply Outcome) → Request Goal Outcome
scripts_of table goal = script_of question_of (candidates_of table goal)

-- no goal's frame takes more steps
abbrev pub most_steps : Table → ℕ
most_steps table = sum_by steps_for table.candidates + 2

-- ---- who asks whom

-- one of these candidates asks the goal
pub record IsAskedBy (candidates : List Candidate) (asked : Goal) : Type 0 where
  pub candidate : Candidate
  pub is_candidate : Contains candidates candidate
  pub asking : Asking
  pub is_asking : Contains candidate.questions asking
  pub same : asking.goal ≡ asked

-- a goal asks another one
abbrev pub Asks : Table → Goal → Goal → Type 0
Asks table goal asked = IsAskedBy (candidates_of table goal) asked

-- the goal is one of those that change, or asks one that is concerned
pub data IsConcerned (table : Table) (changed : List Goal) : Goal → Type 0 where
  itself : (goal : Goal) → Contains changed goal → IsConcerned table changed goal
  asker : (goal asked : Goal) → Asks table goal asked → IsConcerned table changed asked
      → IsConcerned table changed goal

-- ---- how a table keeps this

abbrev pub candidate_of : Way → Candidate
candidate_of way = record { is_marked = way.is_marked; questions = way.questions.items }

abbrev pub candidates_in : {A : Type 0} → Vec Way A → List Candidate
candidates_in ways = map candidate_of ways.items

-- the candidates are so few, and each asks so little, that 32 bits count them
pub record AreFew (candidates : List Candidate) : Type 0 where
  pub candidates_few : length candidates < 2 ^ 32
  pub questions_few : (c : Candidate) → Contains candidates c → length c.questions < 2 ^ 32

-- so is one more candidate behind so many, which asks so much
pub record AreFewer (candidates questions : ℕ) : Type 0 where
  pub candidates_fewer : candidates + 1 < 2 ^ 32
  pub questions_fewer : questions < 2 ^ 32

-- Each name has its place and room for its number, and these pairs of goals are those of which one asks the other.
pub record IsKept (table : Table) (asks : List (Goal × Goal)) : Type 0 where
  pub countable : length table.names ≤ 2 ^ 32
  pub as_many : length table.candidates ≡ length table.names
  pub few : (goal : Goal) → AreFew (candidates_of table goal)
  pub asked : (goal asked : Goal) → Contains asks (goal, asked) ↔ Asks table goal asked
