pub mod Right
pub mod True
