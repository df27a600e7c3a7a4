-- What a goal under evaluation counts of each goal on the stack, and how much of that its candidates used. To ignore a
-- candidate subtracts from these counts what it used; the goal keeps all that was counted outside it.
use Rattle.std.specs.Prelude.{◌≡◌, ◌⊎◌, ℕ, ◌+◌, ◌-◌, ◌^◌, ◌<◌, ◌≤◌, ◌==◌, if◌then◌else◌, IsSome, List, [], ◌∷◌, ◌++◌}
use Rattle.std.specs.Prelude.{slice_get, Option, None, Some, unwrap_or}
use Rattle.std.specs.List.{sum_by}
use Rattle.std.specs.Option.{option_map}
use Rattle.open_graphs.specs.Use as theory
use Rattle.search_rules.specs.Below.{StackDepth, CycleHead, PathKind, HeadUsages, UsagesByHead, Heads, at_depth}
use Rattle.search_rules.specs.Below.{head_shape, count_of, no_usages, usages_by, EntryState}

-- what is counted of one goal
abbrev pub usages_of : UsagesByHead → StackDepth → HeadUsages
usages_of counts head = unwrap_or (at_depth counts head) no_usages

-- a count covers n usages, or it sticks and may stand for any number
abbrev pub IsCovered : ℕ → ℕ → Type 0
IsCovered count n = (count ≡ 2 ^ 32 - 1) ⊎ (n ≤ count)

-- what is left of a count without n usages that it covers
abbrev pub spare_count : ℕ → ℕ → ℕ
spare_count count n = if count == 2 ^ 32 - 1 then count else count - n

-- What a goal counts: of itself, and of its heads; what its open candidate used of them, if there is one, and each
-- finished one, of which an ignored one has nothing left.
pub record Tally : Type 0 where
  pub heads : Heads
  pub own : Option HeadUsages
  pub current : Option UsagesByHead
  pub finished : List UsagesByHead

-- what an entry with this state counts, and its run's finished candidates used
abbrev pub tally_of : {X I R A T : Type 0} → EntryState X I R A T → List UsagesByHead → Tally
tally_of s finished = record { heads = s.heads; own = s.usages; current = s.candidate_usages; finished = finished }

-- how often the goal at `parent` counts a goal on the stack
abbrev pub counted : ℕ → Tally → StackDepth → Option HeadUsages
counted parent t head = if head.0 == parent then t.own else option_map (λ known. known.usages) (at_depth t.heads head)

-- what the candidate of this number used; the open one has the number that it gets once it is finished
abbrev pub candidate_at : Tally → ℕ → UsagesByHead
candidate_at t number = unwrap_or (slice_get (t.finished ++ unwrap_or t.current [] ∷ []) number) []

-- what all candidates used of one goal
abbrev pub candidates_count : Tally → StackDepth → PathKind → ℕ
candidates_count t head kind = count_of (usages_of (unwrap_or t.current []) head) kind
    + sum_by (λ counts. count_of (usages_of counts head) kind) t.finished

-- what was used of a head outside candidates that are open or finished in this run
abbrev pub spare : Tally → StackDepth → HeadUsages → HeadUsages
spare t head usages = usages_by (λ kind. spare_count (count_of usages kind) (candidates_count t head kind))

-- the heads lie below this place
abbrev pub LieBelow : ℕ → Heads → Type 0
LieBelow place heads = (head : StackDepth) → IsSome (at_depth heads head) → head.0 < place

-- The counts of the goal at `parent` agree: its heads lie below it; each goal that a candidate used is counted, and
-- what all of them used is covered.
pub record IsTallied (parent : ℕ) (t : Tally) : Type 0 where
  pub lower : LieBelow parent t.heads
  pub known : (number : ℕ) (head : StackDepth)
      → IsSome (at_depth (candidate_at t number) head) → IsSome (counted parent t head)
  pub bounded : (number : ℕ) (head : StackDepth) (kind : PathKind)
      → count_of (usages_of (candidate_at t number) head) kind ≤ 2 ^ 32 - 1
  pub covered : (head : StackDepth) (kind : PathKind)
      → IsCovered (count_of (unwrap_or (counted parent t head) no_usages) kind) (candidates_count t head kind)

-- the head with a part of what is counted of it
abbrev pub head_with : (HeadUsages → HeadUsages) → CycleHead → CycleHead
head_with part known = record known { usages = part known.usages }

-- the heads as the theory sees them, with a part of what is counted of each
abbrev pub heads_with : Heads → (StackDepth → HeadUsages → HeadUsages) → theory.Heads
heads_with heads part depth =
    head_shape (option_map (head_with (part (record { 0 = depth }))) (at_depth heads (record { 0 = depth })))

-- the heads with what was used outside candidates, in this run or earlier
abbrev pub spare_heads : Tally → theory.Heads
spare_heads t = heads_with t.heads (spare t)

-- the heads with what was used outside candidates, or by the candidate of this number
abbrev pub heads_of : Tally → Option ℕ → theory.Heads
heads_of t None = spare_heads t
heads_of t (Some number) = heads_with t.heads (λ head usages. usages_of (candidate_at t number) head)
