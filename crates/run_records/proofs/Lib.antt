pub mod Options
pub mod Verdicts
pub mod ProgressLaws
pub mod ProgressEdges
pub mod Edges
pub mod Nodes
