pub mod Asked
pub mod Collecting
pub mod Below
pub mod Words
