pub mod Printing
pub mod Settled
