pub mod Capdu
pub mod Expanded
pub mod Promised
