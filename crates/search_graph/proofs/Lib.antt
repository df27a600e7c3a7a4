pub mod requests
pub mod turns
pub mod ran
pub mod promises
pub mod lists
pub mod called
