pub mod Compared
pub mod Part
