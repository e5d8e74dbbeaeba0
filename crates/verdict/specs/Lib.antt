pub mod Number
pub mod Table
