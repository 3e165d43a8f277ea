pub mod Transfers
pub mod Calls
pub mod Clock
pub mod Model
pub mod Held
pub mod Facts
pub mod Carries
pub mod CarriesClock
