pub mod Rows
pub mod Carried
pub mod Scripts
pub mod Sizes
pub mod Builds
