pub mod Ends
pub mod Sessions
pub mod Call
pub mod Demand3
