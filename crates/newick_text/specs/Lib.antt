pub mod Length
pub mod Tree
pub mod Table
pub mod Tests
pub mod Count
