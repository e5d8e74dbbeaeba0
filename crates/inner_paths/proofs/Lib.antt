pub mod Reaching
