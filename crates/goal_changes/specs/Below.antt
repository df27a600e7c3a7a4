-- What the crates below have, from one place.
pub use Rattle.cycle_heads.specs.Candidates.{UsagesByHead, with_noted}
pub use Rattle.cycle_heads.specs.Heads.{at_depth, Heads, joined_head, replace_head, with_head}
pub use Rattle.path_kinds.specs.Paths.{path_of_no_step, paths_of}
unfoldable pub use Rattle.path_kinds.specs.Paths.{extended}
pub use Rattle.cycle_heads.specs.Usages.{count_of, no_usages, with_nested, with_usage, without_usages}
pub use Rattle.cycle_heads.specs.declared.depth.StackDepth.{StackDepth}
pub use Rattle.cycle_heads.specs.declared.heads.CycleHead.{CycleHead}
pub use Rattle.path_kinds.specs.declared.path.PathKind.{PathKind}
pub use Rattle.cycle_heads.specs.declared.usages.HeadUsages.{HeadUsages}
pub use Rattle.search_context.specs.Delegate.{Steps}
pub use Rattle.search_context.specs.Run.{IsFitting}
pub use Rattle.search_context.specs.Verdicts.{verdicts}
pub use Rattle.search_context.specs.declared.context.Cx.{Ghosts as CxOf}
pub use Rattle.search_context.specs.declared.context.Delegate.{Ghosts as DelegateOf}
pub use Rattle.search_context.specs.declared.context.Fault.{Fault}
pub use Rattle.search_context.specs.declared.context.Fault.TheVariants.{Memory, Protocol}
pub use Rattle.search_context.specs.declared.context.NodeId.{NodeId}
pub use Rattle.search_context.specs.declared.context.Reply.{Reply}
pub use Rattle.search_context.specs.declared.context.Request.{Request}
pub use Rattle.search_context.specs.declared.context.Request.TheVariants.{EnterCandidate, FinishCandidate}
pub use Rattle.search_context.specs.declared.context.Request.TheVariants.{Ignore}
pub use Rattle.search_context.specs.declared.context.Verdict.{Verdict}
pub use Rattle.goal_paths.specs.Nested.{joined_paths, JoinsPaths, NestedPaths, paths_at}
pub use Rattle.search_stack.specs.Stack.{fresh_entry}
pub use Rattle.search_stack.specs.declared.depth.AvailableDepth.{AvailableDepth}
pub use Rattle.search_stack.specs.declared.stack.EntryState.{EntryState}
pub use Rattle.search_stack.specs.declared.stack.StackEntry.{StackEntry}
pub use Rattle.search_stack.specs.Hit.{Hit}
pub use Rattle.search_stack.specs.declared.result.EvaluationResult.{EvaluationResult}
pub use Rattle.run_records.specs.Progress.{fault_of, no_record, Records, requested}
pub use Rattle.run_records.specs.Steps.{IsVerdict, received_by}
pub use Rattle.run_records.specs.declared.runs.Received.{Received}
pub use Rattle.run_records.specs.declared.runs.Run.{Run}
