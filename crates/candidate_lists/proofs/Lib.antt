pub mod Steps
pub mod Marked
pub mod Decided
