pub mod Scripted
mod Looped
