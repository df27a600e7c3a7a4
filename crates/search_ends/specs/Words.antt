-- The words of this crate, from one place.
pub use Rattle.search_ends.specs.Popped.{MayPop, NewestFailsToStore, Pops, PopsOrFails}
pub use Rattle.search_ends.specs.RunAgain.{MayRunAgain, RunsAgain}
pub use Rattle.search_ends.specs.Storing.{ChangesResults, Fails, FailsToStore, IsStorable, MayStore, Notes, PutsAnswer}
pub use Rattle.search_ends.specs.Storing.{Stores, StoresOrFails}
pub use Rattle.search_ends.specs.RunEnded.{ComesToEnd, HadMostRuns, IsDone, IsRunAgain, RunLeads}
pub use Rattle.search_ends.specs.RunEnded.{EndedAtLimit, EndedDone, NotRunAgain, RanAgain, RerunKeeps, RunEnds}
