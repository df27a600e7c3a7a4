-- Where the end of a run leads, and what it keeps of provisional entries.
pub mod Said
pub mod EndedGoals
pub mod Ended
