pub mod Slots
pub mod Keeps
pub mod Longs
pub mod Kept
pub mod RoundTrip
pub mod PutBack
