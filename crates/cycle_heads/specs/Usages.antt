-- How often a goal on the stack was used, by the kind of the cycle.
use Rattle.std.specs.Prelude.{ℕ, ◌+◌, ◌-◌, ◌^◌, ◌==◌, ◌&&◌, Bool, not, min, if◌then◌else◌}
use Rattle.path_kinds.specs.declared.path.PathKind.{PathKind}
use Rattle.path_kinds.specs.declared.path.PathKind.TheVariants.{Inductive, Unknown, Coinductive, ForcedAmbiguity}
use Rattle.cycle_heads.specs.declared.usages.HeadUsages.{HeadUsages}
use Rattle.path_kinds.specs.Path.{rank_of}

-- the count of usages by cycles of the kind
abbrev pub count_of : HeadUsages → PathKind → ℕ
count_of usages Inductive = usages.inductive
count_of usages Unknown = usages.unknown
count_of usages Coinductive = usages.coinductive
count_of usages ForcedAmbiguity = usages.forced_ambiguity

-- the usages with these counts
abbrev pub usages_by : (PathKind → ℕ) → HeadUsages
usages_by count = record {
  inductive = count Inductive;
  unknown = count Unknown;
  coinductive = count Coinductive;
  forced_ambiguity = count ForcedAmbiguity;
}

-- the sum of two counts, which sticks at the greatest count
abbrev pub sticking_sum : ℕ → ℕ → ℕ
sticking_sum n m = min (n + m) (2 ^ 32 - 1)

-- a count without m of its usages; a count that sticks stays, since it may stand for more
abbrev pub count_without : ℕ → ℕ → ℕ
count_without n m = if n == 2 ^ 32 - 1 then n else n - m

-- one more usage of the kind
abbrev pub with_usage : HeadUsages → PathKind → HeadUsages
with_usage usages kind =
    usages_by (λ k. if rank_of k == rank_of kind then sticking_sum (count_of usages k) 1 else count_of usages k)

-- one more usage of each kind that is among those of a nested goal
abbrev pub with_nested : HeadUsages → HeadUsages → HeadUsages
with_nested usages nested = usages_by (λ k. sticking_sum (count_of usages k) (min (count_of nested k) 1))

-- the usages of both
abbrev pub with_usages : HeadUsages → HeadUsages → HeadUsages
with_usages usages more = usages_by (λ k. sticking_sum (count_of usages k) (count_of more k))

-- the usages that are left when some are ignored
abbrev pub without_usages : HeadUsages → HeadUsages → HeadUsages
without_usages usages ignored = usages_by (λ k. count_without (count_of usages k) (count_of ignored k))

-- the usages by cycles of other kinds
abbrev pub other_usages : HeadUsages → PathKind → HeadUsages
other_usages usages kind = usages_by (λ k. if rank_of k == rank_of kind then 0 else count_of usages k)

-- no cycle of any kind
abbrev pub no_usages : HeadUsages
no_usages = usages_by (λ _. 0)

-- whether there was a cycle of some kind
abbrev pub has_usages : HeadUsages → Bool
has_usages usages = not ((usages.inductive == 0) && (usages.unknown == 0)
    && (usages.coinductive == 0) && (usages.forced_ambiguity == 0))
