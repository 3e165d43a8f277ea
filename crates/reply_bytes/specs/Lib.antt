pub mod Places
pub mod Replies
pub mod Laws
