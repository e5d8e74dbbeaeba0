pub mod Judged
pub mod Complete
