pub mod Points
pub mod Growing
pub mod Exact
