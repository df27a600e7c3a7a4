pub mod Won
pub mod Moves
