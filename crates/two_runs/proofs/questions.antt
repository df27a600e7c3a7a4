-- What a question keeps where two runs of a goal are enough, and what holds still when nodes are let go after it.
pub mod OneKind
pub mod KeptEntries
pub mod Settling
pub mod LettingGo
