-- Where a question leads, and what it leaves of the goals.
pub mod Asking
pub mod AskedGoals
pub mod Limits
