pub mod Below
pub mod Deciding
pub mod Asked
