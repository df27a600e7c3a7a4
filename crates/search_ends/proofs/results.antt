-- What becomes of a goal's result: where it is stored, what stays stored, and what is known where
-- it could not be stored.
pub mod Storing
pub mod Given
pub mod Remembering
pub mod Causes
pub mod Failing
pub mod Notes
