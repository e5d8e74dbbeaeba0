pub mod Sides
pub mod Worked
pub mod Gathering
pub mod Spans
pub mod Spreading
