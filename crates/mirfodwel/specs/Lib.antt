-- What the exports promise.
pub mod Asked
pub mod Causes
pub mod Given
pub mod Handed
pub mod Held
pub mod Labels
pub mod Opening
pub mod Reading
pub mod Rows
pub mod TableText
pub mod Texts
