-- What the crates below have, from one place.
pub use Rattle.open_graphs.specs.Graph.{Grown}
pub use Rattle.open_graphs.specs.Rebased.{IsLeftHead}
pub use Rattle.open_graphs.specs.Stack.{Entry, IsLeaf, path_kind}
pub use Rattle.open_graphs.specs.State.{no_heads, stack_of}
pub use Rattle.open_graphs.specs.Use.{Use, UsesNo}
pub use Rattle.path_kinds.specs.Path.{greater_kind, greatest_kind, rank_of}
unfoldable pub use Rattle.path_kinds.specs.Paths.{extended}
pub use Rattle.path_kinds.specs.Paths.{extended_by_each, has_kind, kinds_in, path_of_no_step, paths_of, union}
pub use Rattle.path_kinds.specs.declared.path.PathKind.{PathKind}
pub use Rattle.path_kinds.specs.declared.path.PathKind.TheVariants.{Coinductive, Inductive}
pub use Rattle.path_kinds.specs.declared.path.PathsToNested.{PathsToNested}
pub use Rattle.cycle_heads.specs.HeadShapes.{heads_shape}
pub use Rattle.cycle_heads.specs.Heads.{at_depth, Heads, highest, IsRising}
pub use Rattle.cycle_heads.specs.Usages.{has_usages, no_usages, other_usages}
pub use Rattle.cycle_heads.specs.declared.depth.StackDepth.{StackDepth}
pub use Rattle.cycle_heads.specs.declared.heads.CycleHead.{CycleHead}
pub use Rattle.cycle_heads.specs.declared.usages.HeadUsages.{HeadUsages}
pub use Rattle.search_context.specs.Decisive.{IsDecisive}
pub use Rattle.search_context.specs.Graph.{question_of}
pub use Rattle.search_context.specs.Question.{Overlap, Question}
pub use Rattle.search_context.specs.Run.{counted_by, ignored_by, IsFitting, request_after}
pub use Rattle.search_context.specs.Verdicts.{IsDefinite, verdict_of, Verdicts, verdicts}
pub use Rattle.search_context.specs.declared.context.Cx.{Ghosts as CxOf}
pub use Rattle.search_context.specs.declared.context.Delegate.{Ghosts as DelegateOf}
pub use Rattle.search_context.specs.declared.context.Edge.{Edge}
pub use Rattle.search_context.specs.declared.context.Fault.{Fault}
pub use Rattle.search_context.specs.declared.context.NodeId.{NodeId}
pub use Rattle.search_context.specs.declared.context.Reply.{Reply}
pub use Rattle.search_context.specs.declared.context.Reply.TheVariants.{Answer, Begin, Noted}
pub use Rattle.search_context.specs.declared.context.Request.{Request}
pub use Rattle.search_context.specs.declared.context.Request.TheVariants.{Done, EnterCandidate, Evaluate}
pub use Rattle.search_context.specs.declared.context.Request.TheVariants.{FinishCandidate, Ignore}
pub use Rattle.search_context.specs.declared.context.Verdict.{Verdict}
pub use Rattle.search_context.specs.declared.context.Verdict.TheVariants.{Neither, No, Yes}
pub use Rattle.goal_paths.specs.Nested.{NestedPaths, paths_at}
pub use Rattle.graph_nodes.specs.Nodes.{AreRuns, CacheNode, EndedRun, IsNodeOf, KeepsFinished, KeepsGoals}
pub use Rattle.graph_nodes.specs.Nodes.{open_node, with_run}
pub use Rattle.graph_nodes.specs.Shapes.{shape_of, shapes_of}
pub use Rattle.search_stack.specs.Cycle.{path_kind_from}
pub use Rattle.search_stack.specs.Hit.{Hit}
pub use Rattle.search_stack.specs.declared.depth.AvailableDepth.{AvailableDepth}
pub use Rattle.search_stack.specs.declared.result.EvaluationResult.{EvaluationResult}
pub use Rattle.search_stack.specs.declared.stack.EntryState.{EntryState}
pub use Rattle.search_stack.specs.declared.stack.StackEntry.{StackEntry}
pub use Rattle.provisional_cache.specs.Provisional.{entries_at, Lists}
pub use Rattle.provisional_cache.specs.Rebasing.{but_highest, changed_for, rebased, rebased_at, with_unused, with_used}
pub use Rattle.provisional_cache.specs.Reuse.{asking_heads, depends_on, has_head_up_to, may_be_used}
pub use Rattle.provisional_cache.specs.declared.ProvisionalCacheEntry.{ProvisionalCacheEntry}
pub use Rattle.provisional_cache.specs.declared.RebaseReason.{RebaseReason}
pub use Rattle.provisional_cache.specs.declared.RebaseReason.TheVariants.{Ambiguity, NoCycleUsages}
pub use Rattle.provisional_cache.specs.declared.RebaseReason.TheVariants.{Overflow, ReachedFixpoint}
pub use Rattle.global_cache.specs.Cache.{Cache}
pub use Rattle.global_cache.specs.Hits.{first_accepted, usable}
pub use Rattle.global_cache.specs.Store.{place_of, Store, stored_at, stored_from}
pub use Rattle.global_cache.specs.Stored.{AreSoundResults}
pub use Rattle.global_cache.specs.declared.results.Place.TheVariants.{Success, WithOverflow}
pub use Rattle.global_cache.specs.declared.results.StoredResult.{StoredResult}
pub use Rattle.evaluations.specs.Enclosed.{IsEnclosed}
pub use Rattle.evaluations.specs.Frames.{IsAllowed}
pub use Rattle.evaluations.specs.Mirror.{AreSeen}
pub use Rattle.run_records.specs.Progress.{edge_to, edges_of, KeepsAnswer, no_record, open_number, received}
pub use Rattle.run_records.specs.Progress.{requested, RunRecord}
pub use Rattle.run_records.specs.Steps.{IsVerdict, received_by}
pub use Rattle.run_records.specs.declared.progress.DefiniteAnswer.{DefiniteAnswer}
pub use Rattle.run_records.specs.declared.runs.Received.{Received}
pub use Rattle.run_records.specs.declared.runs.Run.{Run}
pub use Rattle.goal_changes.specs.Candidates.{enters, finishes, NotesCandidate}
pub use Rattle.goal_changes.specs.Entries.{first_entry, is_in_cycle, joined_over, some_heads}
pub use Rattle.goal_changes.specs.Entries.{with_depth, with_nested_goals}
pub use Rattle.goal_changes.specs.Items.{AnswersNewest, rerun_with, with_no_record}
pub use Rattle.goal_changes.specs.NestedGoals.{NestsAnswer, NestsHead, TakesStored}
pub use Rattle.goal_changes.specs.Newest.{change_newest, newest}
pub use Rattle.goal_changes.specs.OpenGoal.{OpenGoal}
pub use Rattle.goal_changes.specs.Steps.{HasStepped, Stood}
pub use Rattle.goal_changes.specs.declared.Next.{Next}
pub use Rattle.goal_changes.specs.declared.Next.TheVariants.{Finished, Step}
pub use Rattle.lean_runs.specs.Backed.{verdict_shape}
pub use Rattle.search_rules.specs.Calls.{Call, Outset}
pub use Rattle.search_rules.specs.Claims.{Decides, HasOneOfEach, IsMemoryOrOrder}
pub use Rattle.search_rules.specs.EndOfRun.{IsEndOfRun}
pub use Rattle.search_rules.specs.Evaluating.{Begins, HasAsked, work_left}
pub use Rattle.search_rules.specs.Fates.{fate_for, Fated, fates_of, IsFated}
pub use Rattle.search_rules.specs.Free.{AreFree}
pub use Rattle.search_rules.specs.Justified.{AreJustified, OpenRun}
pub use Rattle.search_rules.specs.LookUp.{is_applicable}
pub use Rattle.search_rules.specs.Moves.{first_run, LeavesNested, Pushes}
pub use Rattle.search_rules.specs.Provisional.{AreReady, entries_for, rebased_for, RebasesNewest}
pub use Rattle.search_rules.specs.Results.{AreDefinite, final_answer, HaveNoOverflowOf, IsNewestStored, StoresNewest}
pub use Rattle.search_rules.specs.Runs.{HasNewestNode, node_given, run_of, runs_of}
pub use Rattle.search_rules.specs.Tallies.{Tally, tally_of}
pub use Rattle.search_rules.specs.declared.end_of_run.Unstable.{Unstable}
pub use Rattle.search_rules.specs.declared.end_of_run.Unstable.TheVariants.{Again, AtLimit}
pub use Rattle.between_moves.specs.Evaluations.{Awaits, IsNew, IsRight, IsRightFor, Requests}
