pub mod Edges
pub mod Joined
pub mod Texts
