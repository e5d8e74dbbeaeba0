pub mod Reporting
pub mod Settled
