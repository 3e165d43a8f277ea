pub mod Routed
pub mod Exports
