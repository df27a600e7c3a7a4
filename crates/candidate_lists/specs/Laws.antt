-- The laws of contexts and delegates of goals with candidates. Their proofs stand here, since the members of an impl
-- name nothing outside of `specs`.
pub mod Members
pub mod Meanings
pub mod Runs
