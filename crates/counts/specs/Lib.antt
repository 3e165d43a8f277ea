pub mod Counts
pub mod OnePass
