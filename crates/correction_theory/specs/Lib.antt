pub mod Correction
pub mod Kept
pub mod Run
