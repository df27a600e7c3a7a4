-- What holds between two moves holds still when nodes are let go.
pub mod Kept
