pub mod ForMemory
pub mod Handed
pub mod LineReads
pub mod NumberWords
pub mod Opened
pub mod TextReads
pub mod Values
