-- What a goal counts of the goals on the stack.
pub mod Tallies
pub mod TakenTallies
