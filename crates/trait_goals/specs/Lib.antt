pub mod Below
pub mod Implementing
pub mod Instances
pub mod Finding
pub mod Known
pub mod Trying
pub mod Rule
pub mod Decided
