pub mod Cell
pub mod Row
