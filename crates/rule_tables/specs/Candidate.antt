-- The candidates of a goal.
use Rattle.std.specs.Prelude.{List, map, take, drop}
use Rattle.candidate_lists.specs.Candidate as lists
use Rattle.rule_tables.specs.declared.rules.Asking.{Asking}
use Rattle.rule_tables.specs.declared.candidates.Row.{Row}

-- one way in which a goal may hold: where all its questions do
abbrev pub Candidate : Type 0
Candidate = lists.Candidate Asking

-- the candidate of a row, where these are the questions of the whole table
abbrev pub candidate_with : List Asking → Row → Candidate
candidate_with askings row = record { is_marked = row.is_marked; questions = take row.count (drop row.first askings) }

abbrev pub candidates_with : List Asking → List Row → List Candidate
candidates_with askings = map (candidate_with askings)
