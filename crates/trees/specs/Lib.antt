pub mod Below
pub mod Shown
pub mod Program
