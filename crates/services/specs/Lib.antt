pub mod Below
pub mod Running
pub mod Rule
