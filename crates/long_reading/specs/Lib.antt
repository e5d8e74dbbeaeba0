pub mod LongHolds
pub mod LongTests
pub mod LongReads
