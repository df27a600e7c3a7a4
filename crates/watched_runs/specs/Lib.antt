pub mod Reasons
pub mod Watch
