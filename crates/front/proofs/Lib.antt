pub mod Formed
pub mod Answered
pub mod Parts
pub mod Settled
