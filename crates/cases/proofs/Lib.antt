pub mod Shape
pub mod Ran
