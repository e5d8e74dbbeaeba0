pub mod Limits
pub mod Chain
pub mod Allowed
pub mod Tests
pub mod Cluster
pub mod Way
pub mod Kernel
pub mod EdgeTable
