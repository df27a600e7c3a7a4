-- What each move leads to, what is known of its goals, and what becomes of their results.
pub mod DecidedGoals
pub mod Moves
pub mod LookUps
pub mod StoredAnswers
pub mod Questions
pub mod EndOfRunLaws
pub mod Reasons
pub mod DoneRuns
pub mod FinishedRuns
pub mod Fates
pub mod Frames
pub mod Storing
pub mod DoneGoals
