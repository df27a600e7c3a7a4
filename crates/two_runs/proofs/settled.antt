-- Why a goal needs no more than two runs where scripts decide: what its answers rest on stays off the
-- goals under evaluation.
pub mod Leading
pub mod StoppedWalks
pub mod OlderEntries
pub mod OffStack
pub mod LeftEntries
pub mod LoneGoals
pub mod NestedGoals
pub mod SettledGoals
pub mod SettledRuns
pub mod SettledPops
pub mod SettledResults
pub mod OneOfBoth
pub mod LaterRuns
pub mod SettledStores
pub mod Collecting
