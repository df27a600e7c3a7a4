-- What a call, and a list of calls, promises where two runs of each goal are enough.
pub mod Called
pub mod Lists
