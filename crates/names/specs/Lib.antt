pub mod Name
pub mod Record
