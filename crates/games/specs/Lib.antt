pub mod Below
pub mod Strategy
pub mod Rule
pub mod Solved
