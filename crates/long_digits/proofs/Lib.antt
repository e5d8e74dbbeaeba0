pub mod Values
pub mod Clamps
pub mod Sums
pub mod Carries
