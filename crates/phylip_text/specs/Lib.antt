pub mod Form
pub mod Tests
pub mod Text
