pub mod Shape
pub mod Longest
