-- The newest frame's next request: what it puts on record, and what it changes of candidates.
pub mod IgnoredTallies
pub mod Noted
pub mod Advancing
