pub mod kinds
pub mod settled
pub mod questions
pub mod ends
pub mod turns
pub mod calls
