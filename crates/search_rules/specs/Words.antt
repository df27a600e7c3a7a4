-- The words of this crate, from one place.
pub use Rattle.search_rules.specs.Calls.{bound, Call, CallMeetsNone, CallIsEnclosed, HadNoOverflow, IsCounted}
pub use Rattle.search_rules.specs.Calls.{KeepsLimits, limits, runs}
pub use Rattle.search_rules.specs.Decided.{AllDecided, IsDecided}
pub use Rattle.search_rules.specs.Evaluating.{Begins, CallGoesOn, Decidedly, HasAsked, HasEnded, HasStopped}
pub use Rattle.search_rules.specs.Evaluating.{IsWaiting, KeepsStore, Leads, seen, work_left}
pub use Rattle.search_rules.specs.Free.{AreFree, IsFree}
pub use Rattle.search_rules.specs.Claims.{BreaksOrder, ComesTo, Conflicts, HasOneOfEach, IfDiffers}
pub use Rattle.search_rules.specs.Claims.{IsCaused, IsMemoryOrOrder}
pub use Rattle.search_rules.specs.Claims.{IsProved, IsRefuted, IsShown, WantsMemory}
pub use Rattle.search_rules.specs.Claims.{OtherResult, OtherThanStored, OutOfMemory, OutOfOrder}
pub use Rattle.search_rules.specs.Justified.{AreCharged, AreEdges, AreJustified, AreOpen, AreSupported, asked_now}
pub use Rattle.search_rules.specs.Justified.{cycles_node, frame_of, frames_of, HasTally, HaveTallies, IsFit}
pub use Rattle.search_rules.specs.Justified.{LeadToGoals, MayAnswer}
pub use Rattle.search_rules.specs.Justified.{NewestAsks, OpenRun}
pub use Rattle.search_rules.specs.EntryShapes.{depths_of, entry_shape, highest_depth, HoldsOver, reason_shape}
pub use Rattle.search_rules.specs.LookUp.{AreOnStack, Asking, could_be_used, is_applicable, IsUsable, meets_entry}
pub use Rattle.search_rules.specs.LookUp.{usable_entry, UsesStored}
pub use Rattle.search_rules.specs.Moves.{CanLeave, ClosesCycle, first_run, GivesAnswer, GivesNested, IsFresh}
pub use Rattle.search_rules.specs.Moves.{LeavesNested, NewestLeaves}
pub use Rattle.search_rules.specs.Moves.{Pushes, Reruns}
pub use Rattle.search_rules.specs.Provisional.{AreReady, entries_for, entry_of, HasReason, IsHead}
pub use Rattle.search_rules.specs.Provisional.{IsLeftOver, IsNewestUnranked, IsReady, IsReusable, LeavesReady}
pub use Rattle.search_rules.specs.Provisional.{rebased_for, RebasesEntries, RestsOn}
pub use Rattle.search_rules.specs.Fates.{answered_by, ChangesNewest, Consults, fate_for, Fated, fates_of}
pub use Rattle.search_rules.specs.Fates.{HasOldest, HaveExpected}
pub use Rattle.search_rules.specs.Fates.{IfCompared, is_compared, IsExpected, IsFated, MovesFates, NoneStored}
pub use Rattle.search_rules.specs.Results.{AreDefinite, final_answer, HaveNoOverflowOf, IsNewestPlainTo, IsNewestStored}
pub use Rattle.search_rules.specs.Results.{MayPut, MayPutNewest, NewestComesTo, NewestIsPlain, place_of_item, Put}
pub use Rattle.search_rules.specs.Results.{RequireWithin, Same, StoresAnswer, WithResult}
pub use Rattle.search_rules.specs.EndOfRun.{Ambiguous, Initial, IsEndOfRun, IsReason, IsStable, IsUsed, Limited}
pub use Rattle.search_rules.specs.EndOfRun.{Repeated, Repeats, Stable, WithoutUsages}
pub use Rattle.search_rules.specs.Runs.{Ended, EndsNewest, EndsRun, HasResultNode, IsJustifiedNext}
pub use Rattle.search_rules.specs.Runs.{AreFrom, KeepsBut, KeepsEarlier, KeepsFirst, LeftOpen, node_given, StayFrom}
pub use Rattle.search_rules.specs.Runs.{run_of, runs_of, SaysAgain}
pub use Rattle.search_rules.specs.Tallies.{candidate_at, candidates_count, counted, head_with, heads_of, heads_with}
pub use Rattle.search_rules.specs.Tallies.{IsCovered, IsTallied, LieBelow, spare, spare_count, spare_heads, Tally}
pub use Rattle.search_rules.specs.Tallies.{tally_of, usages_of}
pub use Rattle.search_rules.specs.Live.{AreLiveEntries, AreLiveResults, AreLiveRuns, IsLiveNode, IsLiveRun}
pub use Rattle.search_rules.specs.declared.end_of_run.Unstable.{Unstable}
pub use Rattle.search_rules.specs.declared.end_of_run.Unstable.TheVariants.{AtLimit}
