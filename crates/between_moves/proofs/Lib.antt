pub mod Keeping
pub mod LiveRoots
pub mod Scopes
