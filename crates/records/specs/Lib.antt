pub mod Names
pub mod Form
pub mod Laid
