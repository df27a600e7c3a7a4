pub mod Progress
pub mod Nodes
pub mod Steps
pub mod Below
pub mod Words
