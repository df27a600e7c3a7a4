pub mod Concerned
pub mod Told
pub mod Found
