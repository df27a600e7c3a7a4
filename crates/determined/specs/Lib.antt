pub mod Below
pub mod Closed
pub mod Given
pub mod Kept
