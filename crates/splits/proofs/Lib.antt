pub mod Adding
pub mod Reading
pub mod Halves
pub mod Rowing
pub mod Swapping
pub mod Cutting
pub mod Passing
pub mod Bound
