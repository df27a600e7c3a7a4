pub mod Staying
pub mod Taking
pub mod Turning
pub mod Statuses
