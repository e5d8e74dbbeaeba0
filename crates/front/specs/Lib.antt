pub mod Holds
pub mod Tests
pub mod Reads
