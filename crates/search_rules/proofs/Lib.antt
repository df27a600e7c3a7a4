pub mod counts
pub mod records
pub mod justified
pub mod moves
pub mod answers
pub mod collecting
pub mod entries
pub mod rebasing
