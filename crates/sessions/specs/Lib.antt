pub mod Below
pub mod Rules
pub mod Shown
pub mod Questions
pub mod Known
pub mod Causes
pub mod Changed
