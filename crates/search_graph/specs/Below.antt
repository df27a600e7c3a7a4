-- What the crates below have, from one place.
pub use Rattle.open_graphs.specs.Use.{Includes}
pub use Rattle.cycle_heads.specs.Candidates.{UsagesByHead}
pub use Rattle.cycle_heads.specs.Heads.{at_depth}
pub use Rattle.cycle_heads.specs.Usages.{count_of, count_without, no_usages}
pub use Rattle.cycle_heads.specs.declared.depth.StackDepth.{StackDepth}
pub use Rattle.cycle_heads.specs.declared.heads.CycleHead.{CycleHead}
pub use Rattle.path_kinds.specs.declared.path.PathKind.{PathKind}
pub use Rattle.cycle_heads.specs.declared.usages.HeadUsages.{HeadUsages}
pub use Rattle.search_context.specs.Decisive.{IsDecisive}
pub use Rattle.search_context.specs.Delegate.{CountsOne, KeepsBuilder}
pub use Rattle.search_context.specs.Question.{Overlap, Question}
unfoldable pub use Rattle.search_context.specs.Rank.{frames_within}
pub use Rattle.search_context.specs.Rank.{IsPlainTo, IsPlainValue}
pub use Rattle.search_context.specs.Run.{counted_by, ignored_by, IsReplyTo}
pub use Rattle.search_context.specs.Verdicts.{IsDefinite, Verdicts, verdicts}
pub use Rattle.search_context.specs.declared.context.Cx.{Ghosts as CxOf}
pub use Rattle.search_context.specs.declared.context.Delegate.{Ghosts as DelegateOf}
pub use Rattle.search_context.specs.declared.context.Fault.{Fault}
pub use Rattle.search_context.specs.declared.context.Fault.TheVariants.{Memory, Protocol}
pub use Rattle.search_context.specs.declared.context.NodeId.{NodeId}
pub use Rattle.search_context.specs.declared.context.Reply.{Reply}
pub use Rattle.search_context.specs.declared.context.Reply.TheVariants.{Begin, Noted}
pub use Rattle.search_context.specs.declared.context.Request.{Request}
pub use Rattle.search_context.specs.declared.context.Request.TheVariants.{Done, EnterCandidate, Evaluate}
pub use Rattle.search_context.specs.declared.context.Request.TheVariants.{FinishCandidate, Ignore}
pub use Rattle.search_context.specs.declared.context.Verdict.{Verdict}
pub use Rattle.search_context.specs.declared.context.Verdict.TheVariants.{Neither}
pub use Rattle.search_stack.specs.declared.depth.AvailableDepth.{AvailableDepth}
pub use Rattle.search_stack.specs.declared.stack.EntryState.{EntryState}
pub use Rattle.search_stack.specs.declared.stack.StackEntry.{StackEntry}
pub use Rattle.graph_nodes.specs.Nodes.{AreRuns, CacheNode, KeepsFinished, KeepsNodes}
pub use Rattle.global_cache.specs.Cache.{Cache}
pub use Rattle.graph_nodes.specs.Definite.{HasGraph}
pub use Rattle.graph_nodes.specs.HandedOut.{IsWhole, KeepsWhole}
pub use Rattle.global_cache.specs.Hits.{first_accepted, usable}
pub use Rattle.search_stack.specs.Hit.{Hit, hit_of}
pub use Rattle.global_cache.specs.declared.results.Place.{Place}
pub use Rattle.global_cache.specs.Store.{KeepsResults, Store, stored_at}
pub use Rattle.global_cache.specs.Stored.{AreSoundResults}
pub use Rattle.global_cache.specs.declared.results.StoredResult.{StoredResult}
pub use Rattle.evaluations.specs.Enclosed.{IsEnclosed}
pub use Rattle.evaluations.specs.Price.{HasCounted, IsPaid}
pub use Rattle.goal_changes.specs.Candidates.{CanIgnore, CanNote, Covers, enters, finishes, Ignores, IgnoresNewest}
pub use Rattle.goal_changes.specs.Candidates.{less_head, less_usages, NotesCandidate}
pub use Rattle.goal_changes.specs.Entries.{is_in_cycle}
pub use Rattle.goal_changes.specs.Newest.{change_newest}
pub use Rattle.run_records.specs.Progress.{answered, IsReplySorted, received, requested}
pub use Rattle.run_records.specs.Progress.{RunRecord}
pub use Rattle.goal_changes.specs.Steps.{CanStep, HasStepped, IsStepFault, NoMemoryLeft, Stood}
pub use Rattle.run_records.specs.Steps.{received_by}
pub use Rattle.goal_changes.specs.declared.Next.{Next}
pub use Rattle.goal_changes.specs.declared.Next.TheVariants.{Finished, Step}
pub use Rattle.run_records.specs.declared.runs.Received.{Received}
pub use Rattle.run_records.specs.declared.runs.Run.{Run}
pub use Rattle.goal_changes.specs.OpenGoal.{OpenGoal}
pub use Rattle.between_moves.specs.Evaluations.{Awaits, ChangesCache, EndsWith, HasReply, HasRequest, IsNew}
pub use Rattle.between_moves.specs.Evaluations.{IsRight, IsRightFor}
pub use Rattle.between_moves.specs.Evaluations.{IsRememberedWhere, IsRightNext, KeepsCache, LeadsTo}
pub use Rattle.between_moves.specs.Evaluations.{Requests, StopsWith}
pub use Rattle.search_rules.specs.Calls.{bound, Call, CallIsEnclosed, HadNoOverflow, IsCounted, limits, Outset, runs}
pub use Rattle.search_rules.specs.Claims.{Decides, IsCaused, IsMemoryOrOrder, IsProved, IsRefuted}
pub use Rattle.search_rules.specs.Claims.{IsRemembered, OutOfMemory}
pub use Rattle.search_rules.specs.Decided.{IsDecided}
pub use Rattle.search_rules.specs.Evaluating.{Begins, CallGoesOn, HasAsked, HasEnded, HasStopped, IsOnly, IsWaiting}
pub use Rattle.search_rules.specs.Evaluating.{KeepsAnswers, Leads, seen, work_left}
pub use Rattle.search_rules.specs.Fates.{ChangesNewest, Fated, fates_of, HasOldest, HaveExpected, IsFated}
pub use Rattle.search_rules.specs.Fates.{IsNewestToStore, MeetsNewest, MovesFates, NoneStored}
pub use Rattle.search_rules.specs.Free.{AreFree}
pub use Rattle.search_rules.specs.Justified.{AreJustified, IsFit, NewestAsks, OpenRun}
pub use Rattle.search_rules.specs.Moves.{Pushes}
pub use Rattle.search_rules.specs.Provisional.{AreReady}
pub use Rattle.search_rules.specs.Results.{AreDefinite, HaveNoOverflow, HaveNoOverflowOf, RequireWithin, StoresWithin}
pub use Rattle.search_rules.specs.Runs.{AreFrom, IfFinished, IsJustifiedNext, KeepsFirst, run_of, runs_of, StayFrom}
pub use Rattle.search_rules.specs.Tallies.{candidate_at, candidates_count, counted, heads_of, IsCovered, IsTallied}
pub use Rattle.search_rules.specs.Tallies.{Tally, tally_of, usages_of}
