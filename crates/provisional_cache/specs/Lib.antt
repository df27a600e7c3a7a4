pub mod Provisional
pub mod Reuse
pub mod Rebasing
pub mod EntryChange
pub mod Nodes
pub mod Below
pub mod Words
