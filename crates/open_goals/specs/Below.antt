-- What the crates below have, from one place.
pub use Rattle.cycle_heads.specs.Candidates.{UsagesByHead, with_noted}
pub use Rattle.cycle_heads.specs.Heads.{at_depth, Heads, IsRising, joined_head, with_head}
pub use Rattle.path_kinds.specs.Paths.{path_of_no_step, paths_of}
unfoldable pub use Rattle.path_kinds.specs.Paths.{extended}
pub use Rattle.cycle_heads.specs.Usages.{no_usages, with_nested, without_usages}
pub use Rattle.cycle_heads.specs.declared.depth.StackDepth.{StackDepth}
pub use Rattle.cycle_heads.specs.declared.heads.CycleHead.{CycleHead}
pub use Rattle.path_kinds.specs.declared.path.PathKind.{PathKind}
pub use Rattle.cycle_heads.specs.declared.usages.HeadUsages.{HeadUsages}
pub use Rattle.search_context.specs.Delegate.{CanTake}
pub use Rattle.search_context.specs.Verdicts.{verdicts}
pub use Rattle.search_context.specs.declared.context.Cx.{Ghosts as CxOf}
pub use Rattle.search_context.specs.declared.context.Delegate.{Ghosts as DelegateOf}
pub use Rattle.search_context.specs.declared.context.Fault.{Fault}
pub use Rattle.search_context.specs.declared.context.NodeId.{NodeId}
pub use Rattle.search_context.specs.declared.context.Request.{Request}
pub use Rattle.search_stack.specs.Lent.{change_last}
pub use Rattle.goal_paths.specs.Nested.{joined_paths, JoinsPaths, NestedPaths, paths_at}
pub use Rattle.search_stack.specs.Stack.{allowed_depth, depth_below, position_of}
pub use Rattle.search_stack.specs.declared.stack.EntryState.{EntryState}
pub use Rattle.search_stack.specs.declared.stack.StackEntry.{StackEntry}
pub use Rattle.search_stack.specs.Hit.{Hit, hit_of}
pub use Rattle.run_records.specs.Nodes.{HasRunNodes}
pub use Rattle.run_records.specs.Progress.{no_record}
pub use Rattle.run_records.specs.Steps.{IsRunFault, IsVerdict, RunOutOfMemory, RunOutOfOrder, RunSteps}
pub use Rattle.run_records.specs.declared.runs.Received.{Received}
pub use Rattle.run_records.specs.declared.runs.Run.{Run}
