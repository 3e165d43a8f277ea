pub mod Services
pub mod ServiceLaws
pub mod Groups
pub mod Header
pub mod Places
pub mod Faults
pub mod Reader
pub mod Table
