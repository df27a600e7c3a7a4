pub mod Parts
pub mod Replay
pub mod Runs
pub mod Walks
pub mod Below
pub mod Words
