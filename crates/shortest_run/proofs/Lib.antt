pub mod Keeping
pub mod Settled
pub mod Stepping
