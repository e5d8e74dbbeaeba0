pub mod Cross
pub mod Inside
pub mod Laws
pub mod Matrices
pub mod Measuring
