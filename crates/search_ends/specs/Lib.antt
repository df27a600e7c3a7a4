pub mod RunEnded
pub mod RunAgain
pub mod Popped
pub mod Storing
pub mod Below
pub mod Words
