pub mod Texts
pub mod Sheets
pub mod Unfitted
pub mod Settled
