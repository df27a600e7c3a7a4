pub mod Shown
pub mod Enough
