pub mod Pairs
pub mod Equal
pub mod Compared
