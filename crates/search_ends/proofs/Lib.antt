pub mod moves
pub mod results
