pub mod Stack
pub mod Hit
pub mod Lent
pub mod Cycle
pub mod Below
pub mod Words
