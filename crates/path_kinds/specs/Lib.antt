pub mod Path
pub mod Paths
pub mod Words
