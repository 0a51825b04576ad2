pub mod Digits
pub mod Named
pub mod Values
pub mod Calls
