pub mod Link
pub mod Arrival
pub mod Losses
pub mod System
pub mod Whole
pub mod WholeLosses
