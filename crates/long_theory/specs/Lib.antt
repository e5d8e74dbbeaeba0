pub mod Long
pub mod Tests
pub mod Same
