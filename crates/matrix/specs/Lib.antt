pub mod Limits
pub mod Place
pub mod Tests
pub mod Kept
pub mod Proper
pub mod Surveys
