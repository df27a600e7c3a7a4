-- The rule of a point, as a list of questions.
use Rattle.std.specs.Prelude.{ℕ, ◌==◌, Bool, false, if◌then◌else◌, List, [], map, length, sum_by, slice_get}
use Rattle.std.specs.List.{list_any}
use Rattle.std.specs.Option.{option_map_or}
use Rattle.reach.specs.Below.{Inductive, Needs, NeedsAll, NeedsAny, Question}
use Rattle.reach.specs.Paths.{Block}
use Rattle.reach.specs.declared.delegate.Point.{Point}

-- the blocks from which the block is entered
abbrev pub predecessors_of : List Block → ℕ → List ℕ
predecessors_of blocks at = option_map_or (λ b. b.predecessors.items) (slice_get blocks at) []

-- the block may write the variable
abbrev pub writes_at : List Block → ℕ → ℕ → Bool
writes_at blocks variable at =
    option_map_or (λ b. list_any (λ w. w == variable) b.writes.items) (slice_get blocks at) false

-- some block from which this one is entered may write it
abbrev pub is_written : List Block → Point → Bool
is_written blocks point = list_any (writes_at blocks point.variable) (predecessors_of blocks point.block)

-- the same variable, before another block
abbrev pub asks : ℕ → ℕ → Question Point
asks variable block = record { kind = Inductive; goal = record { block = block; variable = variable } }

-- a point that is written at once needs all of no questions, and so it holds
abbrev pub needs_of : List Block → Point → Needs
needs_of blocks point = if is_written blocks point then NeedsAll else NeedsAny

abbrev pub questions_of : List Block → Point → List (Question Point)
questions_of blocks point =
    if is_written blocks point then [] else map (asks point.variable) (predecessors_of blocks point.block)

-- no block has more predecessors than all have together
abbrev pub most_predecessors : List Block → ℕ
most_predecessors blocks = sum_by (λ b. length b.predecessors.items) blocks
