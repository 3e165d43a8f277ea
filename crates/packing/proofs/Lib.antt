pub mod Fits
pub mod Outcomes
pub mod Turns
pub mod RoundTrip
