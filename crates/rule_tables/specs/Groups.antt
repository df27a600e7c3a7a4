-- How the rows of rules are put goal by goal.
use Rattle.std.specs.Prelude.{◌≡◌, ℕ, suc, ◌+◌, ◌-◌, ◌<◌, ◌≤◌, ◌^◌, List, [], ◌∷◌, length, map, take, drop}
use Rattle.std.specs.Prelude.{Some, slice_get}
use Rattle.rule_tables.specs.DraftRule.{rules_of}
use Rattle.rule_tables.specs.declared.candidates.Row.{Row}
use Rattle.rule_tables.specs.declared.draft.DraftRule.{DraftRule}

abbrev pub row_of : DraftRule → Row
row_of rule = rule.row

-- The rule with this number, and those that follow it. A rule's number is counted from the last rule on, which has 1.
abbrev pub IsChain : List DraftRule → List ℕ → ℕ → List DraftRule → Type 0
IsChain rules nexts number [] = number ≡ 0
IsChain rules nexts number (rule ∷ rest) = (behind : ℕ) × (number ≡ suc behind) × (behind < length rules)
    × (slice_get rules (length rules - suc behind) ≡ Some rule) × (next : ℕ) × (slice_get nexts behind ≡ Some next)
    × (next ≤ behind) × IsChain rules nexts next rest

-- the last so many rules are linked: for each goal its first one, and for each rule the next one of its goal
pub record AreLinked (rules : List DraftRule) (count goals : ℕ) (firsts nexts : List ℕ) : Type 0 where
  pub goal_count : length firsts ≡ goals
  pub rule_count : length nexts ≡ count
  pub chains : (n first : ℕ) → slice_get firsts n ≡ Some first
      → IsChain rules nexts first (rules_of n (drop (length rules - count) rules))

-- the rows of a goal start and end at these places
pub record IsGroup (starts : List ℕ) (rows : List Row) (n : ℕ) (group : List Row) : Type 0 where
  pub start : ℕ
  pub end : ℕ
  pub is_start : slice_get starts n ≡ Some start
  pub is_end : slice_get starts (n + 1) ≡ Some end
  pub ordered : start ≤ end
  pub within : end ≤ length rows
  pub are_rows : take (end - start) (drop start rows) ≡ group

-- so many goals have their rows, and no rows stand behind these
pub record AreGroups (rules : List DraftRule) (goals : ℕ) (starts : List ℕ) (rows : List Row) : Type 0 where
  pub count : length starts ≡ goals + 1
  pub last : slice_get starts goals ≡ Some (length rows)
  pub few : length rows < 2 ^ 32
  pub groups : (n : ℕ) → n < goals → IsGroup starts rows n (map row_of (rules_of n rules))
