pub mod PathRanks
pub mod PathSets
pub mod PathLaws
pub mod PathMembers
