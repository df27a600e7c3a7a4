pub mod Below
pub mod Outcome
pub mod Laws
pub mod Builder
