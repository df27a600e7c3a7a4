pub mod FirstWords
pub mod NameLemmas
pub mod LinkLemmas
pub mod Bytes
pub mod Written
pub mod Questions
pub mod Lines
