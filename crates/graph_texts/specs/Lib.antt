pub mod Below
pub mod Grounds
pub mod Plan
pub mod Reasons
pub mod Words
