pub mod Terms
pub mod Ranges
pub mod Answered
