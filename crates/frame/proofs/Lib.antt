pub mod LengthLaws
pub mod Numbers
