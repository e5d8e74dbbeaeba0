pub mod Quantities
pub mod Tests
pub mod Stands
pub mod Steps
pub mod Figures
