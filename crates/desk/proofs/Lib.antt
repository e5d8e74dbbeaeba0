pub mod Copies
pub mod Holding
pub mod Settled
