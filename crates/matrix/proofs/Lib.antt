pub mod Looking
pub mod Places
pub mod Answered
pub mod Checked
pub mod Settled
pub mod Completes
