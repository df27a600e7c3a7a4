pub mod Below
pub mod Early
pub mod EarlyLaws
