pub mod Moving
pub mod Settled
