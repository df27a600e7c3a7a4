pub mod Below
pub mod Candidate
pub mod Frame
pub mod Packed
pub mod Standing
pub mod Laws
