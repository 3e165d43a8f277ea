mod Laid
pub mod ReadBack
