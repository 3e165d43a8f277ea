mod Opened
pub mod Changed
