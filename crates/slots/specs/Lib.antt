pub mod Slots
pub mod Bounds
pub mod ByKind
pub mod Facts
pub mod Searches
