pub mod Matrices
pub mod Measured
