pub mod Unpacking
pub mod Places
pub mod Rows
pub mod Count
pub mod Caller
pub mod Table
