pub mod Below
pub mod Bisimulation
pub mod Rule
pub mod Compared
