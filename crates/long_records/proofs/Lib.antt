pub mod Laying
pub mod Formed
pub mod Settled
