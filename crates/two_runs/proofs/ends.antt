-- What the end of a run keeps where two runs of a goal are enough.
pub mod OneKind
pub mod KeptEntries
pub mod SettledEnds
pub mod LimitsAtEnd
