pub mod Telling
pub mod Refused
pub mod Searching
