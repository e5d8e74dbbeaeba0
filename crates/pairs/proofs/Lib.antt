pub mod Remaining
pub mod Lent
pub mod Bounded
