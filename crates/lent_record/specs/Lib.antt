pub mod Ready
pub mod Held
pub mod Judged
pub mod Found
