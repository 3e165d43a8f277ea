pub mod Cases
pub mod Writes
pub mod Steps
pub mod Frames
pub mod Elapses
