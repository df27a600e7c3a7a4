pub mod Calls
pub mod Cuts
pub mod Kept
pub mod ToldAnew
pub mod Valid
pub mod Wanted
