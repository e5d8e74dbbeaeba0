pub mod Nexts
pub mod Filling
pub mod Gathering
pub mod Topping
pub mod Leveling
