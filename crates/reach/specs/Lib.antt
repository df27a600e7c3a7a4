pub mod Below
pub mod Paths
pub mod Program
pub mod Rule
pub mod Analysed
