-- The rows of a table, which stand goal by goal, and where those of each goal start.
use Rattle.std.specs.Prelude.{◌≡◌, ℕ, ◌+◌, ◌-◌, ◌≤◌, List, [], take, drop, slice_get, Option, Some}
use Rattle.rule_tables.specs.declared.candidates.Row.{Row}

abbrev pub rows_between : List Row → Option ℕ → Option ℕ → List Row
rows_between rows (Some start) (Some end) = take (end - start) (drop start rows)
rows_between rows _ _ = []

-- the rows of the goal with this number end where those of the next one start
abbrev pub rows_at : List ℕ → List Row → ℕ → List Row
rows_at starts rows n = rows_between rows (slice_get starts n) (slice_get starts (n + 1))

-- no goal's rows end before they start, or behind the last of so many rows
abbrev pub AreStarts : List ℕ → ℕ → Type 0
AreStarts starts count = (n start end : ℕ) → slice_get starts n ≡ Some start
    → slice_get starts (n + 1) ≡ Some end → (start ≤ end) × (end ≤ count)
