pub mod Groups
pub mod Ends
pub mod Pieces
