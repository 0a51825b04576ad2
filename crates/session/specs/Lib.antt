pub mod Words
pub mod Session
pub mod Select
pub mod Fcp
pub mod Good
pub mod Promised
