pub mod Sheets
pub mod Short
pub mod Same
