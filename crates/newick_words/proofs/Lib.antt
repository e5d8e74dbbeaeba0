pub mod Words
pub mod Edges
pub mod Gathering
