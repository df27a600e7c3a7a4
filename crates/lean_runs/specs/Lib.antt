pub mod Backed
pub mod Lean
pub mod Below
pub mod Words
