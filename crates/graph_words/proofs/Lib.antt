pub mod Lists
pub mod Readback
pub mod Stops
