pub mod Fronts
pub mod Units
pub mod Rows
