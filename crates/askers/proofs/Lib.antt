pub mod Members
pub mod Counting
pub mod Chains
pub mod Indexing
pub mod Finding
pub mod Following
pub mod Entering
pub mod Again
