pub mod Below
pub mod Entries
pub mod Recorder
pub mod Recorded
pub mod Text
pub mod Whole
