pub mod Faults
pub mod Goals
pub mod Types
pub mod Trees
