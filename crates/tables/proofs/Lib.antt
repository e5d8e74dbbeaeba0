pub mod Filling
pub mod Splitting
pub mod Lent
pub mod Settled
