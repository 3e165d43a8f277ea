pub mod Waits
pub mod Forward
pub mod Requests
pub mod Asked
