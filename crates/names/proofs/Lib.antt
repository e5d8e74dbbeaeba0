pub mod Walking
pub mod Keys
pub mod Lent
pub mod Settled
pub mod Laws
pub mod Worked
