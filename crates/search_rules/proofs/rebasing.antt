-- The rule of rebasing, and what it leaves of an entry.
pub mod HeadOrder
pub mod Cases
pub mod Shapes
pub mod Paths
pub mod Rising
pub mod Left
pub mod Rule
pub mod Lists
