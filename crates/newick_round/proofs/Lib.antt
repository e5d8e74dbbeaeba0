pub mod Round
pub mod Sheets
