pub mod Apart
pub mod Follows
pub mod Decided
pub mod Bound
pub mod Reflexive
pub mod Transitive
pub mod Alike
pub mod Enclosed
