-- A rule as it was read.
use Rattle.std.specs.Prelude.{ℕ, ◌<◌, ◌≤◌, ◌+◌, ◌==◌, Bool, List, filter}
use Rattle.rule_tables.specs.Rules.{number_of}
use Rattle.rule_tables.specs.declared.draft.DraftRule.{DraftRule}

-- the rule is one of the goal with this number
abbrev pub is_of : ℕ → DraftRule → Bool
is_of n rule = number_of rule.goal == n

abbrev pub rules_of : ℕ → List DraftRule → List DraftRule
rules_of n = filter (is_of n)

-- the goal is one of so many
abbrev pub IsKnown : ℕ → DraftRule → Type 0
IsKnown count rule = number_of rule.goal < count

-- the questions are among the first so many
abbrev pub EndsWithin : ℕ → DraftRule → Type 0
EndsWithin count rule = rule.row.first + rule.row.count ≤ count
