-- Provisional entries, and why each of them may be used.
pub mod Reusable
pub mod Ready
pub mod Moves
pub mod Questions
pub mod LeftOver
pub mod Popped
pub mod Pops
pub mod Reruns
