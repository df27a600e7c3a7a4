pub mod Below
pub mod Words
