pub mod Lines
pub mod LineWords
pub mod Letters
pub mod Names
pub mod Writing
pub mod Questions
