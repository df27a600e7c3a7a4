-- What a candidate used of the goals on the stack, by depth.
use Rattle.std.specs.Prelude.{List, Option, Some, None, unwrap_or}
use Rattle.std.specs.BTreeMap.{insert_entry}
use Rattle.cycle_heads.specs.declared.depth.StackDepth.{StackDepth}
use Rattle.cycle_heads.specs.declared.usages.HeadUsages.{HeadUsages}
use Rattle.cycle_heads.specs.Heads.{at_depth, depth_cmp}
use Rattle.cycle_heads.specs.Usages.{no_usages, with_nested, with_usages}

-- the usages of each head, by depth
abbrev pub UsagesByHead : Type 0
UsagesByHead = List (StackDepth × HeadUsages)

-- one more usage of each kind for a head, from none where it is new
abbrev pub with_noted : UsagesByHead → StackDepth → HeadUsages → UsagesByHead
with_noted counts head usages =
    insert_entry depth_cmp counts head (with_nested (unwrap_or (at_depth counts head) no_usages) usages)

-- the usages of a head that are recorded twice
abbrev pub merged : Option HeadUsages → Option HeadUsages → Option HeadUsages
merged None more = more
merged (Some usages) None = Some usages
merged (Some usages) (Some more) = Some (with_usages usages more)

-- the sum of usages and those that may be recorded
abbrev pub sum_with : HeadUsages → Option HeadUsages → HeadUsages
sum_with usages None = usages
sum_with usages (Some known) = with_usages usages known

-- the usages where those of one head are added
abbrev pub with_added : UsagesByHead → StackDepth → HeadUsages → UsagesByHead
with_added counts head usages = insert_entry depth_cmp counts head (sum_with usages (at_depth counts head))
