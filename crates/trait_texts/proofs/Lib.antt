pub mod Each
pub mod Told
