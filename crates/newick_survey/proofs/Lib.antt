pub mod Fronts
pub mod Surveying
