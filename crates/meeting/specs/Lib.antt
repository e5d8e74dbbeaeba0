pub mod Shares
pub mod Meeting
