pub mod Squares
pub mod Mixes
pub mod Taken
