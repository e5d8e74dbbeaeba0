pub mod Limits
pub mod Tests
pub mod Proper
pub mod Kept
