pub mod Drafts
pub mod Scopes
pub mod Below
