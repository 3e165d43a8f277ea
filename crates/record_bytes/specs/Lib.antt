pub mod Places
pub mod Longs
pub mod Layout
pub mod Pieces
pub mod Keeping
pub mod Kept
pub mod RoundTrip
