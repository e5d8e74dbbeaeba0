pub mod SheetA
pub mod Asked
pub mod Moves
pub mod Counted
pub mod Afresh
pub mod Run
pub mod Same
pub mod Settled
