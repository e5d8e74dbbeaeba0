pub mod Answering
pub mod Chosen
pub mod Settled
pub mod SheetA
