pub mod Below
pub mod Asked
