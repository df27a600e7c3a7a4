pub mod Ends
pub mod Judging
pub mod Named
pub mod Newline
pub mod RoundTrip
