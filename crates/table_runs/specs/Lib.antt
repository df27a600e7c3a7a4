pub mod Parts
pub mod Right
pub mod Shown
pub mod Told
pub mod Answers
pub mod Program
pub mod Below
