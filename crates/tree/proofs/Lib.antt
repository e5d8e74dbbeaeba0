pub mod Settled
pub mod Tally
