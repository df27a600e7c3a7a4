-- What the crates below have, from one place.
pub use Rattle.open_graphs.specs.AnswerLaws.{TakesIn}
pub use Rattle.open_graphs.specs.Graph.{IsClosedGraph}
pub use Rattle.open_graphs.specs.Rebased.{AreDepths, HasResult, InsertsEmpty, InsertsHeads, IsInserted, IsJoined}
pub use Rattle.open_graphs.specs.Rebased.{IsLeftHead, IsRebasable, IsSingle, IsTakenOut, IsTrueReason, IsZero, Needed}
pub use Rattle.open_graphs.specs.Rebased.{NotNeeded, PassesPathTest, RebasedBy, Stays}
pub use Rattle.open_graphs.specs.Run.{Again, AllAnswered, Anew, Answered, IsAnsweredEdge, Without}
pub use Rattle.open_graphs.specs.Stack.{Accepts, Entry, greatest, path_kind}
pub use Rattle.open_graphs.specs.State.{AfterPop, AllFinal, AllProvisional, answering, Final, in_first_run}
pub use Rattle.open_graphs.specs.State.{in_next_run, IsSoundState, Lower, no_heads, OwnsOther, ProvisionalEntry}
pub use Rattle.open_graphs.specs.State.{RunningGoal, stack_of}
pub use Rattle.open_graphs.specs.StateLaws.{Added, Before, IsLeft, LeftByRerun, Survives}
pub use Rattle.open_graphs.specs.Use.{HeadsWithin, Includes, IncludesBelow, ProvisionalUse, Recorded, Use, UsesNo}
pub use Rattle.cycle_heads.specs.Candidates.{UsagesByHead}
pub use Rattle.cycle_heads.specs.HeadShapes.{count_at, has_rank, head_shape, heads_shape}
pub use Rattle.cycle_heads.specs.Heads.{at_depth, depth_cmp, Heads, highest, IsRising, joined_head, with_head}
pub use Rattle.path_kinds.specs.Path.{greater_kind, greatest_kind, is_coinductive, is_inductive, rank_of}
unfoldable pub use Rattle.path_kinds.specs.Paths.{extended}
pub use Rattle.path_kinds.specs.Paths.{extended_by_each, has_kind, kinds_in, path_of_no_step, paths_of, union}
pub use Rattle.cycle_heads.specs.Usages.{count_of, has_usages, no_usages, other_usages, sticking_sum, usages_by}
pub use Rattle.cycle_heads.specs.Usages.{with_nested, with_usage}
pub use Rattle.cycle_heads.specs.declared.depth.StackDepth.{StackDepth}
pub use Rattle.cycle_heads.specs.declared.heads.CycleHead.{CycleHead}
pub use Rattle.path_kinds.specs.declared.path.PathKind.{PathKind}
pub use Rattle.path_kinds.specs.declared.path.PathKind.TheVariants.{Coinductive, ForcedAmbiguity, Inductive, Unknown}
pub use Rattle.path_kinds.specs.declared.path.PathsToNested.{PathsToNested}
pub use Rattle.cycle_heads.specs.declared.usages.HeadUsages.{HeadUsages}
pub use Rattle.search_context.specs.Decisive.{AreDecided, IsDecidedKind, IsDecidedReply, IsDecisive}
pub use Rattle.search_context.specs.Delegate.{CountsOne, IsCycleResult, IsNeither, Steps}
pub use Rattle.search_context.specs.Graph.{GraphNode, IsProofGraph, IsRefutationGraph, question_of}
pub use Rattle.search_context.specs.Question.{Overlap, Question}
unfoldable pub use Rattle.search_context.specs.Rank.{frames_within}
pub use Rattle.search_context.specs.Rank.{HasNoRank, IsBelowRank, IsPlain, IsPlainTo, IsPlainValue}
pub use Rattle.search_context.specs.Run.{counted_by, EndsIn, fault_after, Fits, IsFitting}
pub use Rattle.search_context.specs.Run.{order_fault, progress_after}
pub use Rattle.search_context.specs.Run.{questions_answered, request_after}
pub use Rattle.search_context.specs.Verdicts.{IsDefinite, verdict_of, Verdicts, verdicts}
pub use Rattle.search_context.specs.declared.context.Cx.{Ghosts as CxOf}
pub use Rattle.search_context.specs.declared.context.Delegate.{Ghosts as DelegateOf}
pub use Rattle.search_context.specs.declared.context.Edge.{Edge}
pub use Rattle.search_context.specs.declared.context.Fault.{Fault}
pub use Rattle.search_context.specs.declared.context.Fault.TheVariants.{Conflict, Memory, Protocol, Validation}
pub use Rattle.search_context.specs.declared.context.NodeId.{NodeId}
pub use Rattle.search_context.specs.declared.context.Reply.{Reply}
pub use Rattle.search_context.specs.declared.context.Reply.TheVariants.{Answer, Begin, Noted}
pub use Rattle.search_context.specs.declared.context.Request.{Request}
pub use Rattle.search_context.specs.declared.context.Request.TheVariants.{Done, EnterCandidate, Evaluate}
pub use Rattle.search_context.specs.declared.context.Request.TheVariants.{FinishCandidate, Ignore}
pub use Rattle.search_context.specs.declared.context.Verdict.{Verdict}
pub use Rattle.search_context.specs.declared.context.Verdict.TheVariants.{Neither, No, Yes}
pub use Rattle.search_stack.specs.Cycle.{path_kind_from}
pub use Rattle.goal_paths.specs.Nested.{NestedPaths, paths_at}
pub use Rattle.search_stack.specs.Stack.{depth_below}
pub use Rattle.search_stack.specs.declared.depth.AvailableDepth.{AvailableDepth}
pub use Rattle.search_stack.specs.declared.result.EvaluationResult.{EvaluationResult}
pub use Rattle.search_stack.specs.declared.stack.EntryState.{EntryState}
pub use Rattle.search_stack.specs.declared.stack.StackEntry.{StackEntry}
pub use Rattle.provisional_cache.specs.Provisional.{entries_at, Lists}
pub use Rattle.provisional_cache.specs.Rebasing.{but_highest, CanBeRebased, changed_for, from_head, from_new_head}
pub use Rattle.provisional_cache.specs.Rebasing.{keeps_kind, keeps_kinds, rebased, rebased_at}
pub use Rattle.provisional_cache.specs.Rebasing.{rebased_unused, rebased_used}
pub use Rattle.provisional_cache.specs.Rebasing.{with_unused, with_used}
pub use Rattle.provisional_cache.specs.Reuse.{asking_heads, depends_on, has_head_up_to, highest_passes, is_used_at}
pub use Rattle.provisional_cache.specs.Reuse.{may_be_used}
pub use Rattle.provisional_cache.specs.declared.ProvisionalCacheEntry.{ProvisionalCacheEntry}
pub use Rattle.provisional_cache.specs.declared.RebaseReason.{RebaseReason}
pub use Rattle.provisional_cache.specs.declared.RebaseReason.TheVariants.{Ambiguity, NoCycleUsages}
pub use Rattle.provisional_cache.specs.declared.RebaseReason.TheVariants.{Overflow, ReachedFixpoint}
pub use Rattle.graph_nodes.specs.Nodes.{AreRuns, CacheNode, EndedRun, graph_nodes_of, IsNodeOf, IsRun}
pub use Rattle.global_cache.specs.Cache.{Cache}
pub use Rattle.graph_nodes.specs.Nodes.{KeepsFinished, KeepsGoals, KeepsNodes, goal_if_open, open_goal}
pub use Rattle.graph_nodes.specs.Nodes.{open_node, with_run}
pub use Rattle.graph_nodes.specs.Definite.{HasGraph, HasNode}
pub use Rattle.global_cache.specs.Hits.{first_accepted, usable}
pub use Rattle.search_stack.specs.Hit.{Hit, hit_of}
pub use Rattle.graph_nodes.specs.Shapes.{edge_shape, shape_of, shapes_of}
pub use Rattle.global_cache.specs.Store.{AnswersStoring, place_of, Puts, same_key, Store, stored_at, stored_from}
pub use Rattle.global_cache.specs.Stored.{AreSoundResults, IsPlainAt}
pub use Rattle.search_stack.specs.declared.result.CacheData.{CacheData}
pub use Rattle.global_cache.specs.declared.results.Place.{Place}
pub use Rattle.global_cache.specs.declared.results.Place.TheVariants.{Success, WithOverflow}
pub use Rattle.global_cache.specs.declared.results.StoredResult.{StoredResult}
pub use Rattle.evaluations.specs.Enclosed.{IsEnclosed}
pub use Rattle.evaluations.specs.Evaluation.{at, Ends, MeetsNone, IsEvaluating, IsRooted, Limits, Stops}
pub use Rattle.evaluations.specs.Frames.{IsAllowed, Outcome, run_again}
pub use Rattle.evaluations.specs.Mirror.{AreSeen, HasRequested, IsAmong, ItemLeaves, Mirror, TakesReply, TakesStep}
pub use Rattle.evaluations.specs.Mirror.{Waits, with_replies}
pub use Rattle.evaluations.specs.Plain.{AreSafe, IsSafeOutcome}
pub use Rattle.evaluations.specs.Starts.{steps_ahead}
pub use Rattle.goal_changes.specs.Candidates.{enters, finishes, Ignores, less_head, less_usages, NotesCandidate}
pub use Rattle.goal_changes.specs.Entries.{cycle_head, first_entry, is_in_cycle, joined_over, overflowed, some_heads}
pub use Rattle.goal_changes.specs.Entries.{TakesAnswer, TakesHeads, usages_over, with_depth, with_nested_goals}
pub use Rattle.goal_changes.specs.Items.{AnswersNewest, rerun_with, with_no_record}
pub use Rattle.goal_changes.specs.NestedGoals.{NestsAnswer, NestsHead, NotesOverflow, TakesStored}
pub use Rattle.goal_changes.specs.Newest.{change_newest, newest}
pub use Rattle.run_records.specs.Progress.{acted, answered, CameTo}
pub use Rattle.run_records.specs.Progress.{edge_to, edges_of, fault_of}
pub use Rattle.run_records.specs.Progress.{IsReplySorted, KeepsAnswer, no_record}
pub use Rattle.run_records.specs.Progress.{open_number, received, requested, RunRecord}
pub use Rattle.goal_changes.specs.Steps.{CanStep, HasStepped, IsStepFault, Item, NoMemoryLeft, OutOfOrder}
pub use Rattle.run_records.specs.Steps.{IsVerdict}
pub use Rattle.run_records.specs.Steps.{received_by}
pub use Rattle.goal_changes.specs.Steps.{Stood}
pub use Rattle.goal_changes.specs.declared.Next.{Next}
pub use Rattle.goal_changes.specs.declared.Next.TheVariants.{Finished, Step}
pub use Rattle.run_records.specs.declared.runs.Received.{Received}
pub use Rattle.run_records.specs.declared.runs.Run.{Run}
pub use Rattle.run_records.specs.declared.progress.DefiniteAnswer.{DefiniteAnswer}
pub use Rattle.goal_changes.specs.OpenGoal.{OpenGoal}
pub use Rattle.lean_runs.specs.Backed.{Beyond, IsBacked, OfAnswer, verdict_shape}
pub use Rattle.lean_runs.specs.Lean.{IsBackedEdge, IsRecordFor}
