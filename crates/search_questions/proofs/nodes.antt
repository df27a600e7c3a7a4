-- What holds still when nodes are let go.
pub mod LettingGo
