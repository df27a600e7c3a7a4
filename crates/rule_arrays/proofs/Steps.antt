-- No goal's frame takes more steps than the candidates of all rows do together, and those of one that says maybe.
use Rattle.std.proofs.Common.{◌≡◌, ℕ, ◌≤◌, List, [], ◌∷◌, length}
use Rattle.std.proofs.Common.{map, take, drop, sum_by, slice_get, Option, Some, None}
use Rattle.std.proofs.Common.{Bool, true, false, cond, eqb, ap, ◌∙◌, arith}
use Rattle.std.proofs.lemmas.List.Sums.{sum_by-take-drop, sum_by-take-le}
use Rattle.std.proofs.lemmas.List.{drop-map, length-append, length-drop, length-map, take-append-drop, take-map}
use Rattle.candidate_lists.specs.Frame.{steps_for, steps_of}
use Rattle.rule_arrays.specs.Table.{Table, candidate_with, candidates_by, candidates_of, most_steps, part_of}
use Rattle.rule_arrays.specs.Table.{unknown}
use Rattle.rule_arrays.specs.declared.rows.GoalRow.{GoalRow}

length-part : {A : Type 0} (xs : List A) (first count : ℕ) → length (part_of xs first count) ≤ length xs
length-part xs first count =
    let whole = ap length (take-append-drop count (drop first xs)) in
    let parts = length-append (take count (drop first xs)) (drop count (drop first xs)) in
    let rest = length-drop first xs in omega arith

sum-part : {A : Type 0} (f : A → ℕ) (xs : List A) (first count : ℕ) → sum_by f (part_of xs first count) ≤ sum_by f xs
sum-part f xs first count =
    let part = sum_by-take-le f (drop first xs) count in
    let rest = sum_by-take-drop f xs first in omega arith

known_within : (table : Table) (first count : ℕ)
    → steps_for (map (candidate_with table.questions) (part_of table.candidates first count)) ≤ most_steps table
known_within table first count =
    let all = map (candidate_with table.questions) table.candidates in
    let is : part_of all first count ≡ map (candidate_with table.questions) (part_of table.candidates first count) =
    ap (take count) (drop-map (candidate_with table.questions) first table.candidates)
    ∙ take-map (candidate_with table.questions) count (drop first table.candidates) in
    let steps = sum-part steps_of all first count in
    let same = ap (sum_by steps_of) is in
    let fewer = length-part table.candidates first count in
    let mapped = length-map (part_of table.candidates first count) (candidate_with table.questions) in omega arith

by_known : (table : Table) (goal : ℕ) (row : GoalRow) (is_unknown : Bool)
    → steps_for (cond is_unknown (unknown goal ∷ []) (map (candidate_with table.questions)
    (part_of table.candidates row.first row.count))) ≤ most_steps table
by_known table goal row true = omega arith
by_known table goal row false = known_within table row.first row.count

by_row : (table : Table) (goal : ℕ) (o : Option GoalRow) → steps_for (candidates_by table goal o) ≤ most_steps table
by_row table goal None = omega arith
by_row table goal (Some row) = by_known table goal row (eqb row.count 4294967295)

pub steps_within : (table : Table) (goal : ℕ) → steps_for (candidates_of table goal) ≤ most_steps table
steps_within table goal = by_row table goal (slice_get table.goals goal)
