pub mod Telling
pub mod Ready
pub mod Judging
