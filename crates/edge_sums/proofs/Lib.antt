pub mod HandingUp
pub mod Turning
pub mod Gathering
