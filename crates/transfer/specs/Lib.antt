pub mod Transfers
pub mod Bounds
pub mod Decisions
pub mod Sends
pub mod Laws
pub mod Kept
