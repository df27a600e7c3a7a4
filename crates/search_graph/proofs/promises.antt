-- What a call promises as it ends or stops.
pub mod Promises
pub mod StoredDepths
