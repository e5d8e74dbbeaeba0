pub mod Totals
pub mod Written
pub mod Back
pub mod Squares
pub mod Terms
pub mod Whole
