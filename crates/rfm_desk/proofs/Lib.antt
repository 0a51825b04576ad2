pub mod Crossing
pub mod Determined
