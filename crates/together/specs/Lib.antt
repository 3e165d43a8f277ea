pub mod Calls
pub mod Received
pub mod Seen
