pub mod Lines
pub mod Steps
pub mod Within
pub mod Goes
pub mod Takes
pub mod Cuts
pub mod Feeds
pub mod Examples
