pub mod Below
pub mod Needs
pub mod Derivations
pub mod Frame
pub mod Meanings
pub mod Told
pub mod Runs
pub mod Standing
