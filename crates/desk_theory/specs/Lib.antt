pub mod Desk
pub mod Promises
