pub mod Answer
pub mod Conversation
pub mod Known
pub mod Below
