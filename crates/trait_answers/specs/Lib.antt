pub mod Below
pub mod Answered
pub mod Deciding
pub mod Asking
