pub mod Below
pub mod Fields
pub mod Parts
pub mod Subtypes
pub mod Order
pub mod Rule
pub mod Pairs
