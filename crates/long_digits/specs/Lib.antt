pub mod Digits
pub mod Clamp
