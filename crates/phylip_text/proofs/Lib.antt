pub mod Sizes
pub mod Cells
pub mod Rows
pub mod RoundTrip
