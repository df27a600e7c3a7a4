pub mod Pigeonhole
pub mod Graphs
pub mod Ranks
pub mod Copies
pub mod Rules
pub mod Filtered
pub mod Builders
