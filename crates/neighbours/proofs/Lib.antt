pub mod Listing
pub mod Settled
