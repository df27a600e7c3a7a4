-- What follows of a whole call, whatever answers it.
pub mod Answering
pub mod Calling
pub mod Decided
pub mod Limits
pub mod Stored
pub mod LimitsMet
pub mod WorkedOut
pub mod Reaching
pub mod Deciding
pub mod Faults
pub mod Left
pub mod Lists
