pub mod Evaluations
pub mod Scopes
pub mod Below
