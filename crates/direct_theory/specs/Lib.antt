pub mod Averages
pub mod Children
pub mod Formula
pub mod Splits
pub mod Tests
pub mod Lengths
