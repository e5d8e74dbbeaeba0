pub mod Checked
pub mod Exactly
pub mod OneFit
pub mod Same
