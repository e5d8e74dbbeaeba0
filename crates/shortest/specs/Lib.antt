pub mod Framed
pub mod Goes
