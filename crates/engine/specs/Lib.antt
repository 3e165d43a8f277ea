pub mod InBytes
pub mod Placed
pub mod Elapsing
pub mod Missing
