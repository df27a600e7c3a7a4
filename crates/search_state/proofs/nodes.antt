-- Which nodes a call notes.
pub mod Noting
