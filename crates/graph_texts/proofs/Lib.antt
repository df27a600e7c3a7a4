pub mod Grounds
pub mod Plans
pub mod Reasons
pub mod Replay
