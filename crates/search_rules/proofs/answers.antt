-- Answers of all kinds: what they show, and what the goals' moves keep of them.
pub mod Shown
pub mod Differing
pub mod Moves
pub mod Kept
pub mod Taken
pub mod Cycles
pub mod Free
pub mod FreeMoves
