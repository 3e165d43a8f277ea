pub mod Fits
pub mod Step
pub mod ReadBack
pub mod Sent
pub mod Answers
pub mod Run
pub mod Demand3
