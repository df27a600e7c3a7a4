pub mod LastState
pub mod StackReads
pub mod Cycles
pub mod Places
