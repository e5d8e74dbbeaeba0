pub mod Texts
pub mod Fits
