pub mod Node
pub mod Routes
pub mod Apart
