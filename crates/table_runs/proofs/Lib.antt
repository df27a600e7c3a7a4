pub mod Accepted
pub mod Answered
pub mod Parts
pub mod Remembered
pub mod Right
pub mod Kept
