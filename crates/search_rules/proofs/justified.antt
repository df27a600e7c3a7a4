-- The goals under evaluation stay justified.
pub mod Beyond
pub mod Justified
pub mod Replies
pub mod Finishing
