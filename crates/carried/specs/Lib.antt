pub mod Fitting
pub mod Crossed
pub mod ReadBack
pub mod Shown
