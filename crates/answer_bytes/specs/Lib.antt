pub mod Places
pub mod Answers
pub mod Sizes
pub mod Puts
pub mod Ends
pub mod EndLaws
pub mod Turns
