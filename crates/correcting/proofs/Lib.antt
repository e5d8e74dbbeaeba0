pub mod Asking
pub mod Changing
pub mod Correcting
pub mod Settled
