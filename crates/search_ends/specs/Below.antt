-- What the crates below have, from one place.
pub use Rattle.cycle_heads.specs.Heads.{highest}
pub use Rattle.cycle_heads.specs.Usages.{has_usages, other_usages}
pub use Rattle.cycle_heads.specs.declared.depth.StackDepth.{StackDepth}
pub use Rattle.cycle_heads.specs.declared.heads.CycleHead.{CycleHead}
pub use Rattle.path_kinds.specs.declared.path.PathKind.{PathKind}
pub use Rattle.cycle_heads.specs.declared.usages.HeadUsages.{HeadUsages}
pub use Rattle.search_context.specs.Delegate.{CountsOne, IsNeither, KeepsBuilder}
pub use Rattle.search_context.specs.Rank.{IsPlainTo, IsPlainValue}
pub use Rattle.search_context.specs.Verdicts.{IsDefinite, verdict_of, Verdicts, verdicts}
pub use Rattle.search_context.specs.declared.context.Cx.{Ghosts as CxOf}
pub use Rattle.search_context.specs.declared.context.Delegate.{Ghosts as DelegateOf}
pub use Rattle.search_context.specs.declared.context.Fault.{Fault}
pub use Rattle.search_context.specs.declared.context.NodeId.{NodeId}
pub use Rattle.search_context.specs.declared.context.Fault.TheVariants.{Memory}
pub use Rattle.search_context.specs.declared.context.Reply.TheVariants.{Begin}
pub use Rattle.search_context.specs.declared.context.Request.TheVariants.{Done}
pub use Rattle.search_stack.specs.declared.result.EvaluationResult.{EvaluationResult}
pub use Rattle.search_stack.specs.declared.stack.StackEntry.{StackEntry}
pub use Rattle.provisional_cache.specs.Provisional.{entries_at, Lists}
pub use Rattle.provisional_cache.specs.Rebasing.{but_highest, changed_for, rebased, with_unused, with_used}
pub use Rattle.provisional_cache.specs.Reuse.{depends_on}
pub use Rattle.provisional_cache.specs.declared.ProvisionalCacheEntry.{ProvisionalCacheEntry}
pub use Rattle.provisional_cache.specs.declared.RebaseReason.{RebaseReason}
pub use Rattle.provisional_cache.specs.declared.RebaseReason.TheVariants.{Overflow}
pub use Rattle.graph_nodes.specs.Nodes.{CacheNode, KeepsFinished, open_node}
pub use Rattle.global_cache.specs.Cache.{Cache}
pub use Rattle.graph_nodes.specs.Definite.{HasGraph}
pub use Rattle.global_cache.specs.Hits.{first_accepted}
pub use Rattle.global_cache.specs.Store.{KeepsResults, place_of, Store, stored_at, stored_from}
pub use Rattle.global_cache.specs.Stored.{IsPlainAt}
pub use Rattle.global_cache.specs.declared.results.Place.{Place}
pub use Rattle.global_cache.specs.declared.results.Place.TheVariants.{Success}
pub use Rattle.global_cache.specs.declared.results.StoredResult.{StoredResult}
pub use Rattle.goal_changes.specs.Items.{rerun_with}
pub use Rattle.goal_changes.specs.NestedGoals.{LeavesAnswer}
pub use Rattle.goal_changes.specs.Newest.{change_newest, newest}
pub use Rattle.goal_changes.specs.declared.Next.{Next}
pub use Rattle.goal_changes.specs.declared.Next.TheVariants.{Step}
pub use Rattle.run_records.specs.declared.runs.Run.{Run}
pub use Rattle.goal_changes.specs.OpenGoal.{OpenGoal}
pub use Rattle.search_rules.specs.Calls.{Call, CallMeetsNone}
pub use Rattle.search_rules.specs.Claims.{ComesTo, IsRemembered}
pub use Rattle.search_rules.specs.EndOfRun.{Ambiguous, Initial, IsEndOfRun, IsReason, Limited, Repeated}
pub use Rattle.search_rules.specs.EndOfRun.{Repeats, Stable, WithoutUsages}
pub use Rattle.search_rules.specs.Evaluating.{CallGoesOn, HasAsked, KeepsAnswers, KeepsStore}
pub use Rattle.search_rules.specs.Fates.{ChangesNewest, Fated, fates_of, HaveExpected, IfCompared, IsExpected}
pub use Rattle.search_rules.specs.Fates.{IsNewestToStore, MovesFates}
pub use Rattle.search_rules.specs.Free.{AreFree}
pub use Rattle.search_rules.specs.Justified.{AreJustified, HaveTallies, IsFit}
pub use Rattle.search_rules.specs.Moves.{GivesAnswer, GivesNested, LeavesNested}
pub use Rattle.search_rules.specs.Provisional.{AreReady, entries_for, entry_of, HasReason}
pub use Rattle.search_rules.specs.Provisional.{IsNewestUnranked, rebased_for, RebasesEntries, RebasesNewest}
pub use Rattle.search_rules.specs.Results.{final_answer, IsNewestPlainTo, IsNewestStored, IsStored, MayPutNewest}
pub use Rattle.search_rules.specs.Results.{NewestComesTo, NewestIsPlain, StoresAnswer, StoresNewest}
pub use Rattle.search_rules.specs.Runs.{HasNewestNode, HasResultNode, IfFinished, IsJustifiedNext, KeepsBut}
pub use Rattle.search_rules.specs.Runs.{KeepsEarlier, node_given, StayFrom}
pub use Rattle.search_rules.specs.Runs.{runs_of}
pub use Rattle.search_rules.specs.declared.end_of_run.Unstable.{Unstable}
pub use Rattle.search_rules.specs.declared.end_of_run.Unstable.TheVariants.{Again, AtLimit}
pub use Rattle.between_moves.specs.Evaluations.{ChangesCache, HasRequest, IsRight, IsRightNext, LeadsTo, Moves}
pub use Rattle.between_moves.specs.Evaluations.{Requests, StartsFrame, StopsWith}
pub use Rattle.search_state.specs.Drafts.{KeepsNoted}
