pub mod Halves
pub mod Taking
