mod Within
mod Ranks
mod Kept
