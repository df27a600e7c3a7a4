-- The nodes of runs.
pub mod LeanNodes
pub mod EarlierNodes
