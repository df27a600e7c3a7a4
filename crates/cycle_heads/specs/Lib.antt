pub mod Below
pub mod Usages
pub mod Heads
pub mod Places
pub mod Candidates
pub mod HeadShapes
pub mod Words
