-- What each move keeps where two runs of a goal are enough, and so each turn and the whole call.
pub mod Steps
pub mod Moves
pub mod Turns
pub mod Ran
