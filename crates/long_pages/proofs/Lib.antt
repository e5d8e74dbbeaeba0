pub mod Shown
pub mod Settled
