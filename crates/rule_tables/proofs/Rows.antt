-- The rows of one goal among those of all goals.
use Rattle.std.proofs.Common.{◌≡◌, ℕ, ◌+◌, ◌-◌, ◌<◌, ◌≤◌, List, [], length, take, drop, get_or, Option, Some, None}
use Rattle.std.proofs.Common.{refl, ap, sym, ◌∙◌, arith}
use Rattle.std.specs.Prelude.{slice_get}
use Rattle.std.proofs.lemmas.Option.{slice_get-get_or, slice_get_past}
use Rattle.rule_tables.specs.Words.{AreStarts, Row, rows_at, rows_between}

module _ (starts : List ℕ) (rows : List Row) (n end : ℕ) (inside : n + 1 < length starts)
    (is : end ≡ get_or starts (n + 1) end) where
  start_is : slice_get starts n ≡ Some (get_or starts n 0)
  start_is = slice_get-get_or starts n 0 (omega arith)

  end_is : slice_get starts (n + 1) ≡ Some end
  end_is = slice_get-get_or starts (n + 1) end inside ∙ ap Some (sym is)

  pub rows_between_are : take (end - get_or starts n 0) (drop (get_or starts n 0) rows) ≡ rows_at starts rows n
  rows_between_are = rw (start_is, end_is) refl

  -- they end behind their start, and among all rows
  pub ends_within : AreStarts starts (length rows) → (get_or starts n 0 ≤ end) × (end ≤ length rows)
  ends_within ordered = ordered n (get_or starts n 0) end start_is end_is

none_between : (rows : List Row) (start : Option ℕ) → rows_between rows start None ≡ []
none_between rows None = refl
none_between rows (Some start) = refl

-- a goal behind the last one has none
pub no_rows : (starts : List ℕ) (rows : List Row) (n : ℕ) → length starts ≤ n + 1 → [] ≡ rows_at starts rows n
no_rows starts rows n past = sym (ap (rows_between rows (slice_get starts n)) (slice_get_past starts (n + 1) past)
    ∙ none_between rows (slice_get starts n))
