pub mod Rooted
pub mod Meets
pub mod Sums
