pub mod Forming
pub mod Tallying
