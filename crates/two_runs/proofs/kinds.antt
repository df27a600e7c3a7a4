-- The kinds of questions, and what each move keeps of them.
pub mod Questions
pub mod Stack
pub mod NestedPaths
pub mod TakenAnswers
pub mod UsedEntries
pub mod PoppedEntries
pub mod StandingApart
pub mod Moves
pub mod ApartMoves
