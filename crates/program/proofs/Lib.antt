pub mod Widths
pub mod Long
pub mod Numbers
pub mod Program
pub mod Room
pub mod Prints
