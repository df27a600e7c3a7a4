-- The goals on the stack that an answer rests on, by depth.
use Rattle.std.specs.Prelude.{◌-◌, List, length, map, slice_get, Option, Some, None}
use Rattle.std.specs.Ordering.{nat_cmp}
use Rattle.std.specs.declared.cmp.Ordering.{Ordering}
use Rattle.std.specs.List.Sorted.{IsStrictlySortedBy}
use Rattle.std.specs.Map.{lookup, set_value}
use Rattle.std.specs.BTreeMap.{insert_entry, is_at}
use Rattle.cycle_heads.specs.declared.depth.StackDepth.{StackDepth}
use Rattle.cycle_heads.specs.declared.heads.CycleHead.{CycleHead}
use Rattle.cycle_heads.specs.declared.usages.HeadUsages.{HeadUsages}
use Rattle.path_kinds.specs.declared.path.PathsToNested.{PathsToNested}
use Rattle.path_kinds.specs.Paths.{union}
use Rattle.cycle_heads.specs.Usages.{with_nested}

-- the heads of an answer, by depth
abbrev pub Heads : Type 0
Heads = List (StackDepth × CycleHead)

-- the order of depths
abbrev pub depth_cmp : StackDepth → StackDepth → Ordering
depth_cmp depth other = nat_cmp depth.0 other.0

-- what is recorded at a depth
abbrev pub at_depth : {A : Type 0} → List (StackDepth × A) → StackDepth → Option A
at_depth entries depth = lookup (is_at (depth_cmp depth)) entries

-- the depths rise, so none comes twice
abbrev pub IsRising : {A : Type 0} → List (StackDepth × A) → Type 0
IsRising entries = IsStrictlySortedBy depth_cmp (map (λ e. e.0) entries)

-- the head of the least depth, and that of the greatest
abbrev pub lowest : Heads → Option (StackDepth × CycleHead)
lowest heads = slice_get heads 0

abbrev pub highest : Heads → Option (StackDepth × CycleHead)
highest heads = slice_get heads (length heads - 1)

-- a head with paths and usages more: a new head has the usages as they are, and one that is there one more of each kind
abbrev pub joined_head : Option CycleHead → PathsToNested → HeadUsages → CycleHead
joined_head None paths usages = record { paths_to_head = paths; usages = usages }
joined_head (Some head) paths usages =
    record { paths_to_head = union head.paths_to_head paths; usages = with_nested head.usages usages }

-- the heads with one more, or one joined
abbrev pub with_head : Heads → StackDepth → PathsToNested → HeadUsages → Heads
with_head heads depth paths usages =
    insert_entry depth_cmp heads depth (joined_head (at_depth heads depth) paths usages)

-- the heads where the one at a depth is another
abbrev pub replace_head : Heads → StackDepth → CycleHead → Heads
replace_head heads depth head = set_value (is_at (depth_cmp depth)) heads head
