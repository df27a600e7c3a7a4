pub mod Below
pub mod Words
pub mod Fault
