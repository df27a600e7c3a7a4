pub mod Within
pub mod Below
