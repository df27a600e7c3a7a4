-- What the crates below have, from one place.
pub use Rattle.cycle_heads.specs.declared.depth.StackDepth.{StackDepth}
pub use Rattle.path_kinds.specs.declared.path.PathKind.{PathKind}
pub use Rattle.search_context.specs.Delegate.{CountsOne, IsCycleResult, IsNeither, KeepsBuilder}
pub use Rattle.search_context.specs.Verdicts.{IsDefinite, verdicts}
pub use Rattle.search_context.specs.declared.context.Cx.{Ghosts as CxOf}
pub use Rattle.search_context.specs.declared.context.Delegate.{Ghosts as DelegateOf}
pub use Rattle.search_context.specs.Graph.{HasEdge, IsReached}
pub use Rattle.search_context.specs.declared.context.NodeId.{NodeId}
pub use Rattle.search_context.specs.declared.context.Fault.TheVariants.{Memory}
pub use Rattle.search_context.specs.declared.context.Reply.TheVariants.{Answer, Begin}
pub use Rattle.search_context.specs.declared.context.Request.TheVariants.{Evaluate}
pub use Rattle.search_stack.specs.Cycle.{path_kind_from}
pub use Rattle.search_stack.specs.Stack.{allowed_depth, depth_below}
pub use Rattle.search_stack.specs.declared.depth.AvailableDepth.{AvailableDepth}
pub use Rattle.search_stack.specs.declared.stack.StackEntry.{StackEntry}
pub use Rattle.provisional_cache.specs.Provisional.{entries_at}
pub use Rattle.provisional_cache.specs.declared.ProvisionalCacheEntry.{ProvisionalCacheEntry}
pub use Rattle.graph_nodes.specs.Nodes.{CacheNode, graph_nodes_of, KeepsNodes, open_node}
pub use Rattle.global_cache.specs.Cache.{Cache}
pub use Rattle.graph_nodes.specs.Definite.{HasGraph}
pub use Rattle.global_cache.specs.Hits.{first_accepted, usable}
pub use Rattle.search_stack.specs.Hit.{Hit, hit_of}
pub use Rattle.global_cache.specs.Store.{Store}
pub use Rattle.global_cache.specs.declared.results.StoredResult.{StoredResult}
pub use Rattle.goal_changes.specs.Entries.{cycle_head, first_entry}
pub use Rattle.goal_changes.specs.Items.{AnswersNewest}
pub use Rattle.goal_changes.specs.NestedGoals.{NestsItself, NotesOverflow, TakesStored}
pub use Rattle.goal_changes.specs.Newest.{newest}
pub use Rattle.goal_changes.specs.Steps.{Stood}
pub use Rattle.run_records.specs.declared.runs.Received.{Received}
pub use Rattle.goal_changes.specs.OpenGoal.{OpenGoal}
pub use Rattle.search_rules.specs.Calls.{bound, Call, CallMeetsNone, IsCounted, limits}
pub use Rattle.search_rules.specs.Evaluating.{HasAsked, HasStopped, KeepsStore, seen}
pub use Rattle.search_rules.specs.Fates.{Fated, fates_of, HaveExpected}
pub use Rattle.search_rules.specs.Fates.{IsFated, MovesFates}
pub use Rattle.search_rules.specs.Free.{AreFree}
pub use Rattle.search_rules.specs.Justified.{AreJustified, IsFit, NewestAsks}
pub use Rattle.search_rules.specs.LookUp.{AreOnStack, is_applicable, usable_entry}
pub use Rattle.search_rules.specs.Moves.{ClosesCycle, first_run, Pushes}
pub use Rattle.search_rules.specs.Provisional.{AreReady}
pub use Rattle.search_rules.specs.Provisional.{IsReady}
pub use Rattle.search_rules.specs.Runs.{StayFrom}
pub use Rattle.search_rules.specs.Runs.{run_of, runs_of}
pub use Rattle.between_moves.specs.Evaluations.{GoesOnWith, HasRequest, IsRight, IsRightFor, KeepsCache, Requests}
pub use Rattle.between_moves.specs.Evaluations.{StartsFrame, StopsWith}
pub use Rattle.search_state.specs.Drafts.{AreNotedNodes, LeavesReached, noted}
