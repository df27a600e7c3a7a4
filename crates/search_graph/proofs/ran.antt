-- What a call does, turn by turn, and what follows of that.
pub mod Making
pub mod Moves
pub mod Turns
pub mod Calls
pub mod Ended
