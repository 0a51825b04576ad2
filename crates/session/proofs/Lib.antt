pub mod Template
pub mod Finds
pub mod Owned
pub mod Good
pub mod Determined
