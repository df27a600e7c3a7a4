-- No goal's frame has more steps than any goal's frame may have.
use Rattle.std.proofs.Common.{◌≡◌, ℕ, ◌+◌, ◌-◌, ◌≤◌, List, length, take, drop, sum_by, slice_get, Option, Some, None}
use Rattle.std.proofs.Common.{ap, ◌∙◌, arith}
use Rattle.std.proofs.lemmas.List.Sums.{sum_by-take-drop, sum_by-take-le}
use Rattle.std.proofs.lemmas.List.{drop-map, length-append, length-drop, length-map, take-append-drop, take-map}
use Rattle.rule_tables.specs.Candidate.{candidate_with, candidates_with}
use Rattle.rule_tables.specs.Words.{Goal, Asking, Candidate, Row, rows_at, rows_between, Rules, number_of}
use Rattle.rule_tables.specs.Words.{candidates_of, steps_of, steps_within}

length-take-drop : {A : Type 0} (xs : List A) (start count : ℕ) → length (take count (drop start xs)) ≤ length xs
length-take-drop xs start count =
    let whole = ap length (take-append-drop count (drop start xs)) in
    let parts = length-append (take count (drop start xs)) (drop count (drop start xs)) in
    let rest = length-drop start xs in omega arith

part_within : {A : Type 0} (f : A → ℕ) (xs : List A) (start count : ℕ)
    → sum_by f (take count (drop start xs)) ≤ sum_by f xs
part_within f xs start count =
    let part = sum_by-take-le f (drop start xs) count in
    let rest = sum_by-take-drop f xs start in omega arith

sum_between : (f : Candidate → ℕ) (askings : List Asking) (rows : List Row) (o p : Option ℕ)
    → sum_by f (candidates_with askings (rows_between rows o p)) ≤ sum_by f (candidates_with askings rows)
sum_between f askings rows (Some start) (Some end) =
    let all = candidates_with askings rows in
    let is : take (end - start) (drop start all) ≡ candidates_with askings (take (end - start) (drop start rows)) =
    ap (take (end - start)) (drop-map (candidate_with askings) start rows)
    ∙ take-map (candidate_with askings) (end - start) (drop start rows) in
    let part = part_within f all start (end - start) in
    let same = ap (sum_by f) is in omega arith
sum_between f askings rows (Some start) None = omega arith
sum_between f askings rows None p = omega arith

-- the sum over a goal's candidates is within that over all
pub sum_within : (f : Candidate → ℕ) (rules : Rules) (goal : Goal)
    → sum_by f (candidates_of rules goal) ≤ sum_by f (candidates_with rules.askings.items rules.rows.items)
sum_within f rules goal = sum_between f rules.askings.items rules.rows.items
    (slice_get rules.starts.items (number_of goal)) (slice_get rules.starts.items (number_of goal + 1))

length-between : (rows : List Row) (o p : Option ℕ) → length (rows_between rows o p) ≤ length rows
length-between rows (Some start) (Some end) = length-take-drop rows start (end - start)
length-between rows (Some start) None = omega arith
length-between rows None p = omega arith

-- no goal's frame has more
pub fresh_within : (rules : Rules) (goal : Goal)
    → sum_by steps_of (candidates_of rules goal) + length (candidates_of rules goal) + 2 ≤ steps_within rules
fresh_within rules goal =
    let rows = rows_at rules.starts.items rules.rows.items (number_of goal) in
    let steps = sum_within steps_of rules goal in
    let fewer = length-between rules.rows.items (slice_get rules.starts.items (number_of goal))
    (slice_get rules.starts.items (number_of goal + 1)) in
    let same = length-map rows (candidate_with rules.askings.items) in omega arith
