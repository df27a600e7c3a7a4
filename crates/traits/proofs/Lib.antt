pub mod Kept
pub mod True
