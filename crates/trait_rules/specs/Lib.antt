pub mod Numbered
pub mod Terms
pub mod Rules
