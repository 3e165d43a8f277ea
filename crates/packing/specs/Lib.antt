pub mod Packing
pub mod Shapes
pub mod RoundTrip
pub mod Table
