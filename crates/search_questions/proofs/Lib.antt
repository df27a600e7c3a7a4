pub mod moves
pub mod nodes
