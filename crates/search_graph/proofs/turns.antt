-- The loop: how it begins, what each turn of it keeps, and why it stops.
pub mod Loops
pub mod Causes
pub mod Beginning
pub mod KeptFates
pub mod Turns
