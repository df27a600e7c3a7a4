pub mod Nested
pub mod StackIndex
pub mod Steps
pub mod Raises
pub mod Kept
pub mod Below
pub mod Words
