pub mod Nodes
pub mod Below
