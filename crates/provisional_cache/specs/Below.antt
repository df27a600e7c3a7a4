-- What the crates below have, from one place.
pub use Rattle.cycle_heads.specs.Heads.{at_depth, depth_cmp, Heads, highest, joined_head, lowest, with_head}
pub use Rattle.path_kinds.specs.Path.{greater_kind, rank_of}
pub use Rattle.path_kinds.specs.Paths.{extended_by_each, kinds_in, path_of_no_step}
pub use Rattle.cycle_heads.specs.Usages.{has_usages, no_usages, other_usages}
pub use Rattle.cycle_heads.specs.declared.depth.StackDepth.{StackDepth}
pub use Rattle.cycle_heads.specs.declared.heads.CycleHead.{CycleHead}
pub use Rattle.path_kinds.specs.declared.path.PathKind.{PathKind}
pub use Rattle.path_kinds.specs.declared.path.PathsToNested.{PathsToNested}
pub use Rattle.cycle_heads.specs.declared.usages.HeadUsages.{HeadUsages}
pub use Rattle.search_stack.specs.declared.stack.StackEntry.{StackEntry}
