pub mod Places
pub mod Reaching
pub mod Keeping
pub mod Changing
pub mod Naming
pub mod Stepping
