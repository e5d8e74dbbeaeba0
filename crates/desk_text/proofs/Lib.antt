pub mod Cutting
pub mod Splitting
