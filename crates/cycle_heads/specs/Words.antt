-- The words of this crate, from one place.
pub use Rattle.cycle_heads.specs.Candidates.{merged, sum_with, UsagesByHead, with_added, with_noted}
pub use Rattle.cycle_heads.specs.HeadShapes.{count_at, has_rank, head_shape}
pub use Rattle.cycle_heads.specs.Heads.{at_depth, depth_cmp, Heads, highest, IsRising, joined_head}
pub use Rattle.cycle_heads.specs.Heads.{lowest, replace_head}
pub use Rattle.cycle_heads.specs.Heads.{with_head}
pub use Rattle.cycle_heads.specs.Places.{AreBelow, place_of}
pub use Rattle.cycle_heads.specs.Usages.{count_of, count_without, has_usages, no_usages, other_usages, sticking_sum}
pub use Rattle.cycle_heads.specs.Usages.{usages_by, with_nested, with_usage, with_usages, without_usages}
pub use Rattle.cycle_heads.specs.declared.depth.StackDepth.{StackDepth}
pub use Rattle.cycle_heads.specs.declared.heads.CycleHead.{CycleHead}
pub use Rattle.cycle_heads.specs.declared.usages.HeadUsages.{HeadUsages}
