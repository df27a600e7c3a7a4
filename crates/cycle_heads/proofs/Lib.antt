pub mod Counts
pub mod HeadLists
pub mod Places
pub mod HighestHeads
pub mod HeadShapes
pub mod MergedUsages
